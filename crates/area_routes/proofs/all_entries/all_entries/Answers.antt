use Rattle.std.proofs.Common.{◌≡◌, ◌++◌, ◌<◌, ◌^◌, take, sym, ap, subst, ◌∙◌}
use Rattle.area_routes.specs.Values.{ResultBelow, EntriesBelow, EntryValue}
use Rattle.best_ways.proofs.WayLemmas.{All-flat_map, All-taken}
use Rattle.area_routes.proofs.AddsLemmas.{adds_step, flat_map_adds}
use Rattle.area_routes.proofs.all_entries.all_entries.Goals as goal

pub loop-area-preserved : goal.loop-area-preserved
loop-area-preserved g c = (
  adds_step (flat_map_adds (λ r. r.entries)) (λ es. c.loop-area.all.items ≡ es) (λ es. c.add_entries.new.all.items ≡ es)
      c.args.results.now c.loop-area.area-index c.area-item.result c.loop-area-test.true c.area-item.is c.loop-area.invariant.0
      (λ es before. c.in_ok-add_entries.ensures.entries ∙ ap (λ l. l ++ c.area-item.result.entries) before),
  All-taken (ResultBelow (2 ^ 33)) c.args.results.now c.loop-area.area-index c.area-item.result c.loop-area-test.true
      c.area-item.is c.add_entries.ensures.below c.loop-area.invariant.1,
)

pub returns-clause-small : goal.returns-clause-small
returns-clause-small g c =
    subst (EntriesBelow (2 ^ 33)) (sym c.loop-area.invariant.0)
    (All-flat_map (λ (e : EntryValue). e.cost < 2 ^ 33) (ResultBelow (2 ^ 33)) (λ r. r.entries) (λ r h. h.entries)
    (take c.loop-area.area-index c.args.results.now) c.loop-area.invariant.1)
