use Rattle.std.proofs.Common.{◌∙◌, ◌++◌, List, ap}
use Rattle.std.proofs.lemmas.Iterator.Consumers.{YieldsList-end, YieldsList-from_first}
use Rattle.lsdb.specs.RouterSlots.{SlotOfRouter}
use Rattle.lsdb.specs.declared.section.Section.{Section}
use Rattle.lsdb.specs.Slots.{slots_in}
use Rattle.edit_history.specs.Effect.{router_fate}
use Rattle.edit_history.specs.Exchange.{SwapData}
use Rattle.edit_history.specs.steps.Plans.{section_swaps}
use Rattle.edit_history.proofs.RouterSwaps.{found_all, found_end, found_turn, in_section}
use Rattle.edit_history.proofs.failures.add_swaps_of_router.Goals as goal

pub loop-entry-preserved : goal.loop-entry-preserved
loop-entry-preserved g c =
    found_turn c.args.router c.args.number c.section_name-section.result (in_section c.args.database.now c.args.number) c.loop-entry.yielded
    c.in-Some.entry _ _ _ c.in_ok-add_swap.ensures.swaps c.loop-entry.invariant

pub returns-clause-swaps : goal.returns-clause-swaps
returns-clause-swaps g c =
    let listed = YieldsList-from_first (λ (entry : SlotOfRouter). entry) (λ (slots : List SlotOfRouter). slots) c.slots_of_router-entry-items.result
    c.into_iter-entry-iterator.ensures.into_iter_gives in
    let look = in_section c.args.database.now c.args.number in
    found_end c.args.router c.args.number c.section_name-section.result look c.loop-entry.yielded c.slots_of_router-entry-items.result _ _
    (YieldsList-end listed c.loop-entry.yielded _ c.loop-entry.yielded_by _ _ c.in-None.is c.next.ensures.steps).0 c.loop-entry.invariant
    ∙ ap (λ (ss : List SwapData). c.args.swaps.now.items ++ ss)
    (found_all c.args.router c.args.database.now c.args.number c.section_name-section.result c.slots_of_router-entry-items.result c.slots_of_router-entry-items.ensures)
    ∙ ap (λ (name : Section).
    c.args.swaps.now.items ++ section_swaps (router_fate c.args.router) c.args.number name 0 (slots_in c.args.database.now c.args.number))
    c.section_name-section.ensures
