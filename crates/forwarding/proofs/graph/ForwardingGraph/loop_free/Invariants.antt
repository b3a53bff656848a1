use Rattle.forwarding.specs.Graphs.{next_in}
use Rattle.forwarding.specs.steps.LoopFree.{AreLoopFree}
use Rattle.forwarding.proofs.graph.ForwardingGraph.loop_free.Given as goal

-- those that were added are such routers
abbrev pub invariant-loop-pass : goal.invariant-loop-pass
invariant-loop-pass g l = AreLoopFree (next_in l.self) l.loop_free.keys
