use Rattle.std.proofs.Common.{◌≡◌, ◌++◌, drop, take}
use Rattle.edit_history.specs.Exchange.{CanDo, done_slots, done_swaps}
use Rattle.edit_history.proofs.swap.do_swaps.Given as goal

-- the rest leads to where all of them lead
abbrev pub invariant-loop-i : goal.invariant-loop-i
invariant-loop-i g l = record {
  rest : drop l.i l.swaps ≡ drop l.i l.fn.swaps;
  can : CanDo l.database (drop l.i l.fn.swaps);
  slots : done_slots l.database (drop l.i l.fn.swaps) ≡ done_slots l.fn.database l.fn.swaps;
  swaps : take l.i l.swaps ++ done_swaps l.database (drop l.i l.fn.swaps) ≡ done_swaps l.fn.database l.fn.swaps;
}
