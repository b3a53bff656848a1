use Rattle.std.proofs.Common.{[], ◌++◌, ◌∙◌, Option, ap}
use Rattle.std.specs.List.{cons_option}
use Rattle.area_routes.proofs.AddsLemmas.{filter_map_adds}
use Rattle.audit_places.specs.Places.{PlaceValue}
use Rattle.link_report.proofs.PushedLemmas.{made_all, made_more}
use Rattle.audit_topology.specs.Parts.{split_in}
use Rattle.audit_topology.proofs.split_areas.split_in_all.Goals as goal

pub loop-area-preserved : goal.loop-area-preserved
loop-area-preserved g c =
    let places = c.loop-area.places.items in
    made_more (filter_map_adds (split_in c.args.areas.now)) c.args.areas.now c.loop-area.area-index c.area-item.result places _ c.loop-area-test.true
    c.area-item.is c.loop-area.invariant
    (c.in_ok-push_some.ensures ∙ ap (λ (o : Option PlaceValue). places ++ cons_option o []) c.in_ok-split_in.ensures)

pub returns : goal.returns
returns g c =
    made_all (filter_map_adds (split_in c.args.areas.now)) c.args.areas.now c.loop-area.area-index c.loop-area.places.items c.loop-area-test.false
    c.loop-area.invariant
