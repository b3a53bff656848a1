use Rattle.std.proofs.Common.{◌≡◌, ◌++◌, drop}
use Rattle.lsdb.specs.Slots.{slots_in}
use Rattle.edit_history.specs.Effect.{net_fate}
use Rattle.edit_history.specs.steps.Plans.{section_swaps}
use Rattle.edit_history.proofs.failures.add_swaps_of_network.Given as goal

abbrev pub invariant-loop-index : goal.invariant-loop-index
invariant-loop-index g l =
    l.swaps.items ++ section_swaps (net_fate l.network) l.number l.section l.index (drop l.index (slots_in l.database l.number))
    ≡ l.fn.swaps.items ++ section_swaps (net_fate l.network) l.number l.section 0 (slots_in l.database l.number)
