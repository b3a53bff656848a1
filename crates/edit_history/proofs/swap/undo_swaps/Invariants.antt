use Rattle.std.proofs.Common.{◌≡◌, ◌≤◌, ◌++◌, drop, take, length}
use Rattle.edit_history.specs.Exchange.{CanUndo, undone_slots, undone_swaps}
use Rattle.edit_history.proofs.swap.undo_swaps.Given as goal

-- the ones from i on are undone
abbrev pub invariant-loop-i : goal.invariant-loop-i
invariant-loop-i g l = record {
  low : l.i ≤ length l.fn.swaps;
  can : CanUndo l.fn.database l.fn.swaps;
  slots : l.database ≡ undone_slots l.fn.database (drop l.i l.fn.swaps);
  swaps : l.swaps ≡ take l.i l.fn.swaps ++ undone_swaps l.fn.database (drop l.i l.fn.swaps);
}
