use Rattle.std.proofs.Common.{◌≡◌, ◌++◌}
use Rattle.edit_history.proofs.RouterSwaps.{found_swaps, in_section}
use Rattle.edit_history.proofs.failures.add_swaps_of_router.Given as goal

abbrev pub invariant-loop-entry : goal.invariant-loop-entry
invariant-loop-entry g l =
    l.swaps.items ≡ l.fn.swaps.items ++ found_swaps l.router l.number l.section (in_section l.database l.number) l.yielded
