use Rattle.std.proofs.Common.{◌≡◌, ℕ, ◌∙◌, List, Option, set, sym, ap, subst, arith}
use Rattle.spf.specs.declared.queue.Candidate.{Candidate}
use Rattle.spf.specs.steps.Search.{IsNoneFarther, PushesNeighbors}
use Rattle.spf.specs.steps.Table.{AreWaiting, settled_in}
use Rattle.spf.proofs.Waiting.{none_farther_set, settled_set, waiting_settled}
use Rattle.spf.proofs.dijkstra.settle_one.Goals as goal

pub push_neighbors-requires-clause-order : goal.push_neighbors-requires-clause-order
push_neighbors-requires-clause-order g c =
    let numbers = c.args.distances.now in
    let next : Candidate = c.args.next in
    let is : c.set.new.self ≡ set numbers next.index next.distance = c.set.ensures in
    subst (λ (ns : List ℕ). IsNoneFarther (settled_in ns) next.distance) (sym is)
    (none_farther_set numbers next.index next.distance (omega arith) (omega arith) c.requires.order)

pub push_neighbors-requires-clause-waiting : goal.push_neighbors-requires-clause-waiting
push_neighbors-requires-clause-waiting g c =
    let numbers = c.args.distances.now in
    let next : Candidate = c.args.next in
    let is : c.set.new.self ≡ set numbers next.index next.distance = c.set.ensures in
    subst (λ (ns : List ℕ). AreWaiting ns c.args.queue.now) (sym is)
    (waiting_settled numbers next c.args.queue.now (omega arith) c.requires.waiting)

pub returns-clause-settles : goal.returns-clause-settles
returns-clause-settles g c =
    let t = c.args.graph.now in
    let numbers = c.args.distances.now in
    let next : Candidate = c.args.next in
    let same = c.push_neighbors.ensures.settled in
    record {
      distances = same ∙ ap (λ (ns : List ℕ). settled_in ns) c.set.ensures ∙ settled_set numbers next.index next.distance (omega arith);
      last = c.in_ok-push.ensures.items;
      pushes = subst (λ (xs : List (Option ℕ)). PushesNeighbors t next.index next.distance xs c.args.queue.now c.push_neighbors.new.queue)
          (sym same) c.in_ok-push_neighbors.ensures.pushes;
      count = c.in_ok-push_neighbors.ensures.count;
    }
