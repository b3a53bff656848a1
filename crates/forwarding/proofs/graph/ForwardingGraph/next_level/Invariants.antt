use Rattle.std.proofs.Common.{◌≡◌, take}
use Rattle.std.specs.List.{flat_map}
use Rattle.forwarding.specs.steps.Levels.{unseen_from}
use Rattle.forwarding.proofs.graph.ForwardingGraph.next_level.Given as goal

-- those to which the routers so far send
abbrev pub invariant-loop-router : goal.invariant-loop-router
invariant-loop-router g l = l.routers.items ≡ flat_map (unseen_from l.self l.seen.keys) (take l.router-index l.level)
