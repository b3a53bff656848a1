use Rattle.std.proofs.Common.{take}
use Rattle.forwarding.specs.steps.Ending.{HaveEnds}
use Rattle.forwarding.proofs.graph.ForwardingGraph.ends.Given as goal

-- the ends at the routers so far
abbrev pub invariant-loop-router : goal.invariant-loop-router
invariant-loop-router g l = HaveEnds l.self (take l.router-index l.reached) l.ends
