use Rattle.std.proofs.Common.{◌≡◌, ◌+◌, ◌≤◌, length, take}
use Rattle.spf.specs.steps.Table.{AreWaiting, settled_in}
use Rattle.spf.proofs.Pushing.{PushesRow}
use Rattle.spf.proofs.dijkstra.push_neighbors.Given as goal

abbrev pub invariant-loop-edge : goal.invariant-loop-edge
invariant-loop-edge g l = record {
  pushes : PushesRow l.graph l.distance (settled_in l.initial.distances) (take l.edge-index l.edge-items) l.initial.queue l.queue;
  count : length l.queue ≤ length l.initial.queue + l.edge-index;
  sized : length l.distances ≡ length l.initial.distances;
  settled : settled_in l.distances ≡ settled_in l.initial.distances;
  waiting : AreWaiting l.distances l.queue;
}
