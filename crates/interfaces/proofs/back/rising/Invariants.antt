use Rattle.std.proofs.Common.{◌≡◌, ◌≤◌, drop, length}
use Rattle.std.specs.Ordering.{nat_cmp}
use Rattle.area_graph.specs.Rising.{rising}
use Rattle.interfaces.proofs.back.rising.Given as goal

-- the numbers from the last on
abbrev pub invariant-loop-i : goal.invariant-loop-i
invariant-loop-i g l = (l.i ≤ length l.fn.numbers) × (l.found.keys ≡ rising nat_cmp (drop l.i l.fn.numbers))
