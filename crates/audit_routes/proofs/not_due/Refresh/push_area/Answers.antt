use Rattle.std.proofs.Common.{[], ◌++◌, ◌∙◌, List, ℕ, Option, ap}
use Rattle.std.specs.List.{cons_option, filter_map}
use Rattle.lsa_codec.specs.declared.key.Key.{Key}
use Rattle.lsdb.specs.declared.section.Section.TheVariants.{Area}
use Rattle.lsdb.specs.Lists.{lsas_of}
use Rattle.area_routes.proofs.AddsLemmas.{filter_map_adds}
use Rattle.audit_places.specs.Places.{PlaceValue}
use Rattle.audit_routes.specs.InOrder.{found_at, keys_in_order}
use Rattle.audit_routes.specs.NotDue.{RefreshValue, not_due_place}
use Rattle.audit_routes.proofs.Loops.{begun, ended, one_more_at}
use Rattle.audit_routes.proofs.not_due.Refresh.push_area.Goals as goal

abbrev no_key : Key
no_key = record { kind = 0; id = record { 0 = 0 }; adv = record { 0 = 0 } }

pub loop-key-init : goal.loop-key-init
loop-key-init g c =
    let at : Key → Option PlaceValue = found_at (not_due_place c.args.self.now c.args.metrics c.args.area) (lsas_of (Area c.args.area) c.args.self.now.db) in
    begun (filter_map_adds at) c.args.places.now.items c.deref-key-items.result.now

pub loop-key-preserved : goal.loop-key-preserved
loop-key-preserved g c =
    let at : Key → Option PlaceValue = found_at (not_due_place c.args.self.now c.args.metrics c.args.area) (lsas_of (Area c.args.area) c.args.self.now.db) in
    one_more_at (filter_map_adds at) c.args.places.now.items c.deref-key-items.result.now c.loop-key.key-index no_key c.loop-key.places.items _
    c.loop-key-test.true c.loop-key.invariant
    (c.in_ok-push_some.ensures ∙ ap (λ (o : Option PlaceValue). c.loop-key.places.items ++ cons_option o []) c.place_at.ensures)

pub returns : goal.returns
returns g c =
    let at : Key → Option PlaceValue = found_at (not_due_place c.args.self.now c.args.metrics c.args.area) (lsas_of (Area c.args.area) c.args.self.now.db) in
    ended (filter_map_adds at) c.args.places.now.items c.deref-key-items.result.now c.loop-key.key-index c.loop-key.places.items c.loop-key-test.false
    c.loop-key.invariant
    ∙ ap (λ (keys : List Key). c.args.places.now.items ++ filter_map at keys)
    (c.deref-key-items.ensures.value ∙ c.in_ok-keys.ensures ∙ ap (λ (lsas : List (List ℕ)). keys_in_order lsas) c.lsas.ensures.lsas)
    ∙ ap (λ (r : RefreshValue). c.args.places.now.items ++ filter_map at (keys_in_order (lsas_of (Area c.args.area) r.db))) c.self.view_is
