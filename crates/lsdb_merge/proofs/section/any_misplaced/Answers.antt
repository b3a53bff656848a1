use Rattle.std.proofs.Common.{◌∙◌, sym, subst, List}
use Rattle.std.specs.Prelude.{All}
use Rattle.std.proofs.lemmas.List.{take_all}
use Rattle.lsa_instances.specs.declared.observation.Observation.{Observation}
use Rattle.lsdb_merge.proofs.Growing.{all_next}
use Rattle.lsdb_merge.proofs.Placed.{IsPlaced, all_accepted, all_placed}
use Rattle.lsdb_merge.proofs.section.any_misplaced.Goals as goal

pub loop-observation-preserved : goal.loop-observation-preserved
loop-observation-preserved g c =
    all_next IsPlaced c.args.newest.now c.loop-observation.observation-index c.observation-item.result c.loop-observation-test.true c.observation-item.is
    (record { placed = sym c.is_misplaced.ensures ∙ c.if-is_misplaced.false; accepted = c.bytes-bytes.ensures.accepted }) c.loop-observation.invariant

pub returns-clause-any : goal.returns-clause-any
returns-clause-any g c =
    let P : List (Observation g.row.A.Denot) → Type 0 = λ xs. All IsPlaced xs in
    sym (all_placed c.args.newest.now
    (subst P (take_all c.loop-observation.observation-index c.args.newest.now c.loop-observation-test.false) c.loop-observation.invariant))

pub returns-clause-accepted : goal.returns-clause-accepted
returns-clause-accepted g c = λ e.
    let P : List (Observation g.row.A.Denot) → Type 0 = λ xs. All IsPlaced xs in
    all_accepted c.args.newest.now
    (subst P (take_all c.loop-observation.observation-index c.args.newest.now c.loop-observation-test.false) c.loop-observation.invariant)
