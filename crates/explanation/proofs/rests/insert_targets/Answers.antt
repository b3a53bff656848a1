use Rattle.std.proofs.Common.{List, ap, subst, sym, ◌∙◌}
use Rattle.std.specs.BTreeSet.{insert_key}
use Rattle.explanation.specs.declared.rest.Rest.{Rest}
use Rattle.explanation.specs.steps.Resting.{IsByRest}
use Rattle.area_candidates.proofs.InsertingLemmas.{Inserts, first_all, first_more, first_none}
use Rattle.explanation.proofs.OneRest.{by_rest, no_rest}
use Rattle.explanation.proofs.Orders.{rest_cmp}
use Rattle.explanation.proofs.rests.insert_targets.Goals as goal
use Rattle.explanation.proofs.rests.insert_targets.Goals.{in-Some+in_ok-insert, in_default}

pub loop-target-init : goal.loop-target-init
loop-target-init g c = first_none IsByRest c.args.targets.now c.args.rests.now.keys

pub loop-target-preserved : goal.loop-target-preserved
loop-target-preserved g c =
    let targets = c.args.targets.now in
    let i = c.loop-target.target-index in
    let target = c.target-item.result in
    let start = c.args.rests.now.keys in
    let old = c.loop-target.rests.keys in
    let new = c.match-target.rests.keys in
    elim c.match-target.branch [
      | in-Some+in_ok-insert w ↦
          first_more IsByRest targets i target start old new c.loop-target-test.true c.target-item.is c.loop-target.invariant
          (by_rest old new target w.in-Some.name w.in-Some.is
          (ap (λ s. s.keys) w.rests-is ∙ w.in_ok-insert.ensures.keys ∙ ap (insert_key rest_cmp old) w.of.ensures))
      | in_default w ↦
          first_more IsByRest targets i target start old new c.loop-target-test.true c.target-item.is c.loop-target.invariant
          (subst (λ (l : List Rest). Inserts (IsByRest target) old l) (sym (ap (λ s. s.keys) w.rests-is)) (no_rest old target w.in_default.is))
    ]

pub returns : goal.returns
returns g c =
    first_all IsByRest c.args.targets.now c.loop-target.target-index c.args.rests.now.keys c.loop-target.rests.keys
    c.loop-target-test.false c.loop-target.invariant
