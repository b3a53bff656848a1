use Rattle.std.proofs.Common.{◌≡◌, ◌+◌, ◌<◌, ◌∙◌, sym, ap, subst, List, [], ◌∷◌, ◌++◌, length, get_or, take, arith}
use Rattle.std.specs.List.Sorted.{IsSorted}
use Rattle.std.proofs.lemmas.List.{take_more}
use Rattle.lsa_instances.specs.declared.observation.Observation.{Observation}
use Rattle.lsa_instances.specs.steps.ObservationOrder.{observation_cmp}
use Rattle.lsa_instances.proofs.Comparing.{After}
use Rattle.lsa_instances.proofs.Steps.{after, looked_at}
use Rattle.lsa_instances.proofs.choice.newest_of_sorted.Goals as goal

pub loop-observation-preserved : goal.loop-observation-preserved
loop-observation-preserved g c =
    let X : Type 0 = Observation g.row.A.Denot in
    let all : List X = c.deref-observation-items.result.now in
    let i = c.loop-observation.observation-index in
    let x : X = c.observation-item.result in
    let p : List X = take i all in
    let l : i < length all = omega arith in
    let e : x ≡ get_or all i x = c.observation-item.is in
    let up : IsSorted observation_cmp all =
    let P : List X → Type 0 = λ xs. IsSorted observation_cmp xs in subst P (sym c.deref-observation-items.ensures.value) c.requires in
    let b : After p x = let P : X → Type 0 = λ z. After p z in subst P (sym e) (after all i x up l) in
    let more : take (i + 1) all ≡ p ++ x ∷ [] = take_more all i x l ∙ ap (λ (z : X). p ++ z ∷ []) (sym e) in
    let k = looked_at c.args.flushed p x b c.loop-observation.flush c.loop-observation.newest.items c.loop-observation.invariant in
    rw (more, c.flush_so_far-flush.ensures, c.in_ok-look_at.ensures) k
