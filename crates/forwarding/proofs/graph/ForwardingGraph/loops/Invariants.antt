use Rattle.std.proofs.Common.{take}
use Rattle.forwarding.proofs.LoopLists.{AreFrom}
use Rattle.forwarding.proofs.graph.ForwardingGraph.loops.Given as goal

-- those of the routers so far
abbrev pub invariant-loop-router : goal.invariant-loop-router
invariant-loop-router g l = AreFrom l.self (take l.router-index l.router-items) l.loops.items
