use Rattle.std.proofs.Common.{List, ap, subst, sym, ◌∙◌}
use Rattle.std.specs.BTreeSet.{insert_key}
use Rattle.explanation.specs.declared.rest.Rest.{Rest}
use Rattle.explanation.specs.steps.Resting.{IsUsedRest}
use Rattle.area_candidates.proofs.InsertingLemmas.{Inserts, first_all, first_more, first_none}
use Rattle.explanation.proofs.OneRest.{unused_rest, used_rest}
use Rattle.explanation.proofs.Orders.{rest_cmp}
use Rattle.explanation.proofs.rests.insert_candidates.Goals as goal
use Rattle.explanation.proofs.rests.insert_candidates.Goals.{then-is_used+in_ok-insert, else-is_used}

pub loop-candidate-init : goal.loop-candidate-init
loop-candidate-init g c = first_none IsUsedRest c.args.candidates.now c.args.rests.now.keys

pub loop-candidate-preserved : goal.loop-candidate-preserved
loop-candidate-preserved g c =
    let candidates = c.args.candidates.now in
    let i = c.loop-candidate.candidate-index in
    let candidate = c.candidate-item.result in
    let start = c.args.rests.now.keys in
    let old = c.loop-candidate.rests.keys in
    let new = c.if-is_used.rests.keys in
    elim c.if-is_used.branch [
      | then-is_used+in_ok-insert w ↦
          first_more IsUsedRest candidates i candidate start old new c.loop-candidate-test.true c.candidate-item.is c.loop-candidate.invariant
          (used_rest old new candidate (sym c.is_used.ensures ∙ w.if-is_used.true)
          (ap (λ s. s.keys) w.rests-is ∙ w.in_ok-insert.ensures.keys ∙ ap (insert_key rest_cmp old) w.of.ensures))
      | else-is_used w ↦
          first_more IsUsedRest candidates i candidate start old new c.loop-candidate-test.true c.candidate-item.is c.loop-candidate.invariant
          (subst (λ (l : List Rest). Inserts (IsUsedRest candidate) old l) (sym (ap (λ s. s.keys) w.rests-is))
          (unused_rest old candidate (sym c.is_used.ensures ∙ w.if-is_used.false)))
    ]

pub returns : goal.returns
returns g c =
    first_all IsUsedRest c.args.candidates.now c.loop-candidate.candidate-index c.args.rests.now.keys c.loop-candidate.rests.keys
    c.loop-candidate-test.false c.loop-candidate.invariant
