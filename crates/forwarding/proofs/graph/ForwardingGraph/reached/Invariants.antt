use Rattle.std.proofs.Common.{◌-◌, ◌^◌, length}
use Rattle.forwarding.proofs.Rounded.{IsSearch}
use Rattle.forwarding.proofs.graph.ForwardingGraph.reached.Given as goal

-- those reached so far, and the next level
abbrev pub invariant-levels : goal.invariant-levels
invariant-levels g l = IsSearch l.self l.fn.start l.reached.items l.seen.keys l.level.items

-- those that may still be reached
abbrev pub decreases-levels : goal.decreases-levels
decreases-levels g l = 2 ^ 64 - length l.reached.items
