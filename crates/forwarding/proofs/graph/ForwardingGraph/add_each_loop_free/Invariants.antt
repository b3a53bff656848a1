use Rattle.forwarding.specs.Graphs.{next_in}
use Rattle.forwarding.specs.steps.LoopFree.{AreLoopFree}
use Rattle.forwarding.proofs.graph.ForwardingGraph.add_each_loop_free.Given as goal

-- those that were added are such routers
abbrev pub invariant-loop-router : goal.invariant-loop-router
invariant-loop-router g l = AreLoopFree (next_in l.self) l.initial.loop_free.keys → AreLoopFree (next_in l.self) l.loop_free.keys
