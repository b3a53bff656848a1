use Rattle.std.proofs.Common.{◌≡◌, ℕ, ◌*◌, ◌≤◌, List, [], ◌∷◌, Option, length, replicate, sym, ◌∙◌, subst, arith}
use Rattle.std.specs.List.Sorted.{IsPermutation}
use Rattle.std.proofs.lemmas.List.{length-map, length-replicate}
use Rattle.spf.specs.declared.queue.Candidate.{Candidate}
use Rattle.spf.specs.steps.Relaxation.{reached_count}
use Rattle.spf.specs.steps.Table.{AreWaiting, distance_in, settled_in, unreached}
use Rattle.spf.specs.Candidates.{candidate_at}
use Rattle.spf.proofs.Reached.{reached_count-le}
use Rattle.spf.proofs.Searching.{Searching, Searching-start, IsSettled-empty}
use Rattle.spf.proofs.Stepping.{Searching-step, work-step}
use Rattle.spf.proofs.Taking.{next_candidate, settled_below}
use Rattle.spf.proofs.Waiting.{none_settled, none_waiting, waiting_taken}
use Rattle.spf.proofs.dijkstra.settle_all.Goals as goal

pub loop-next-init : goal.loop-next-init
loop-next-init g c =
    let t = c.args.graph.now in
    let queue = c.push.new.self in
    let none : List ℕ = replicate (length t.vertices) unreached in
    let sized : length (settled_in none) ≡ length t.vertices = length-map none (λ n. distance_in n) ∙ length-replicate (length t.vertices) unreached in
    let pushed : IsPermutation (candidate_at t 0 c.args.root ∷ []) queue =
    rw c.new-queue.ensures at (rw c.candidate.ensures at c.in_ok-push.ensures) in
    record {
      search = subst (λ (ns : List ℕ). Searching t c.args.root (settled_in ns) c.args.order.now.items queue) (sym c.requires.unreached)
          (subst (λ (xs : List ℕ). Searching t c.args.root (settled_in none) xs queue) (sym c.requires.unordered)
          (Searching-start t c.args.root (settled_in none) queue sized c.requires.root (none_settled (length t.vertices)) pushed));
      waiting = subst (λ (ns : List ℕ). AreWaiting ns queue) (sym c.requires.unreached) (none_waiting (length t.vertices) queue);
    }

pub settle_new-requires-clause-sized : goal.settle_new-requires-clause-sized
settle_new-requires-clause-sized g c =
    sym (length-map c.loop-next.distances (λ n. distance_in n)) ∙ c.loop-next.invariant.search.sized

pub settle_new-requires-clause-within : goal.settle_new-requires-clause-within
settle_new-requires-clause-within g c = (next_candidate c.in-Some.next c.pop.new.self c.loop-next.invariant.search c.in-Some.ensures.taken).within

pub settle_new-requires-clause-small : goal.settle_new-requires-clause-small
settle_new-requires-clause-small g c =
    let ds : List (Option ℕ) = settled_in c.loop-next.distances in
    let small : c.in-Some.next.distance ≤ 65535 * reached_count ds =
    (next_candidate c.in-Some.next c.pop.new.self c.loop-next.invariant.search c.in-Some.ensures.taken).small in
    let count : reached_count ds ≤ length ds = reached_count-le ds in
    let size = c.loop-next.invariant.search.sized in
    let few : length c.args.graph.now.vertices ≤ 8192 = c.requires.shape.few in
    omega arith

pub settle_new-requires-clause-order : goal.settle_new-requires-clause-order
settle_new-requires-clause-order g c =
    settled_below c.args.graph.now c.requires.shape c.args.root (settled_in c.loop-next.distances) c.loop-next.order.items
    c.loop-next.queue c.pop.new.self c.in-Some.next c.loop-next.invariant.search c.in-Some.ensures.taken

pub settle_new-requires-clause-waiting : goal.settle_new-requires-clause-waiting
settle_new-requires-clause-waiting g c =
    waiting_taken c.loop-next.distances c.loop-next.queue c.in-Some.next c.pop.new.self c.in-Some.ensures.taken c.loop-next.invariant.waiting

pub loop-next-preserved : goal.loop-next-preserved
loop-next-preserved g c = record {
  search = Searching-step c.args.graph.now c.requires.shape c.args.root (settled_in c.loop-next.distances) c.loop-next.order.items
      c.loop-next.queue c.pop.new.self c.in-Some.next c.loop-next.invariant.search c.in-Some.ensures.taken
      (settled_in c.settle_new.new.distances) c.settle_new.new.order.items c.settle_new.new.queue c.in-Some.ensures.first c.in_ok-settle_new.ensures.settles;
  waiting = c.in_ok-settle_new.ensures.waiting;
}

pub loop-next-smaller : goal.loop-next-smaller
loop-next-smaller g c =
    work-step c.args.graph.now c.requires.shape c.args.root (settled_in c.loop-next.distances) c.loop-next.order.items
    c.loop-next.queue c.pop.new.self c.in-Some.next c.loop-next.invariant.search c.in-Some.ensures.taken
    (settled_in c.settle_new.new.distances) c.settle_new.new.order.items c.settle_new.new.queue c.in_ok-settle_new.ensures.settles

pub returns : goal.returns
returns g c =
    IsSettled-empty c.args.graph.now c.args.root (settled_in c.loop-next.distances) c.loop-next.order.items c.requires.shape
    (subst (λ (xs : List Candidate). Searching c.args.graph.now c.args.root (settled_in c.loop-next.distances) c.loop-next.order.items xs)
    c.in_default.ensures.none c.loop-next.invariant.search)
