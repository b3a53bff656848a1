use Rattle.std.proofs.Common.{take}
use Rattle.forwarding.specs.steps.Looping.{AreBack}
use Rattle.forwarding.proofs.graph.ForwardingGraph.back_to.Given as goal

-- those of the routers so far
abbrev pub invariant-loop-other : goal.invariant-loop-other
invariant-loop-other g l = AreBack l.self l.router (take l.other-index l.routers) l.found.items
