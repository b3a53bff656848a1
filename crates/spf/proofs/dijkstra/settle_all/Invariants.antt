use Rattle.spf.specs.steps.Table.{AreWaiting, settled_in}
use Rattle.spf.proofs.Searching.{Searching}
use Rattle.spf.proofs.Taking.{work}
use Rattle.spf.proofs.dijkstra.settle_all.Given as goal

abbrev pub invariant-loop-next : goal.invariant-loop-next
invariant-loop-next g l = record {
  search : Searching l.graph l.root (settled_in l.distances) l.order.items l.queue;
  waiting : AreWaiting l.distances l.queue;
}

abbrev pub decreases-loop-next : goal.decreases-loop-next
decreases-loop-next g l = work (settled_in l.distances) l.queue
