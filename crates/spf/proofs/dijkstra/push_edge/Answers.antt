use Rattle.std.proofs.Common.{ℕ, ◌+◌, ◌<◌, ◌≤◌, ◌%◌, ◌^◌, ◌∙◌, List, ◌∷◌, get_or, refl, sym, ap, subst, arith, inr}
use Rattle.std.specs.List.Sorted.{IsPermutation}
use Rattle.spf.specs.declared.queue.Candidate.{Candidate}
use Rattle.spf.specs.Candidates.{candidate_at}
use Rattle.spf.specs.steps.Table.{AreWaiting, settled_in, unreached}
use Rattle.spf.proofs.Waiting.{known, settled_noted, waiting_pushed}
use Rattle.spf.proofs.dijkstra.push_edge.Goals as goal

pub returns-then-least-distance-clause-pushes : goal.returns-then-least-distance-clause-pushes
returns-then-least-distance-clause-pushes g c =
    let numbers = c.args.distances.now in
    let to = c.args.edge.to in
    let far : ℕ = c.args.distance + c.args.edge.cost in
    let less : get_or numbers to unreached % 2 ^ 31 ≤ far = omega arith in
    inr (refl, known numbers c.args.queue.now to far (omega arith) (omega arith) c.requires.waiting less c.least.ensures.fits)

pub returns-in_err-push-clause-settled : goal.returns-in_err-push-clause-settled
returns-in_err-push-clause-settled g c =
    let numbers = c.args.distances.now in
    let to = c.args.edge.to in
    let far : ℕ = c.args.distance + c.from.result in
    let more : far < get_or numbers to unreached % 2 ^ 31 = omega arith in
    ap (λ (ns : List ℕ). settled_in ns) c.note.ensures
    ∙ settled_noted numbers to c.args.distance far (omega arith) (omega arith) c.requires.order far more

pub returns-clause-settled : goal.returns-clause-settled
returns-clause-settled g c =
    let numbers = c.args.distances.now in
    let to = c.args.edge.to in
    let far : ℕ = c.args.distance + c.from.result in
    let more : far < get_or numbers to unreached % 2 ^ 31 = omega arith in
    ap (λ (ns : List ℕ). settled_in ns) c.note.ensures
    ∙ settled_noted numbers to c.args.distance far (omega arith) (omega arith) c.requires.order far more

pub returns-clause-waiting : goal.returns-clause-waiting
returns-clause-waiting g c =
    let numbers = c.args.distances.now in
    let old = c.args.queue.now in
    let new = c.push.new.self in
    let one : Candidate = candidate_at c.args.graph.now (c.args.distance + c.from.result) c.args.edge.to in
    let pushed : IsPermutation (one ∷ old) new = subst (λ (x : Candidate). IsPermutation (x ∷ old) new) c.candidate.ensures c.in_ok-push.ensures in
    subst (λ (ns : List ℕ). AreWaiting ns new) (sym c.note.ensures) (waiting_pushed numbers one old new pushed c.requires.waiting)
