use Rattle.std.proofs.Common.{List, ap, get_or, subst, sym, ◌∙◌}
use Rattle.std.specs.BTreeSet.{insert_key}
use Rattle.std.specs.List.{Contains}
use Rattle.std.proofs.lemmas.List.{get_or_default}
use Rattle.std.proofs.lemmas.Result.{on_ok_weaker}
use Rattle.least_paths.specs.declared.least_edge.LeastEdge.{LeastEdge}
use Rattle.explanation.specs.declared.way_step.WayStep.{WayStep}
use Rattle.explanation.specs.steps.Edges.{IsStepOnward, IsToTarget}
use Rattle.area_candidates.proofs.InsertingLemmas.{Inserts, first_all, first_more, first_none, inserts_both}
use Rattle.explanation.proofs.EdgesIn.{no_edge}
use Rattle.explanation.proofs.OneRest.{no_step_onward, step_onward}
use Rattle.explanation.proofs.Orders.{step_cmp}
use Rattle.explanation.proofs.steps.insert_over.Goals as goal
use Rattle.explanation.proofs.steps.insert_over.Goals.{in-Some+in_ok-insert, in_default}

pub loop-edge-init : goal.loop-edge-init
loop-edge-init g c = first_none (IsStepOnward c.args.start c.args.network) c.args.edges.now c.insert_target.new.steps.keys

pub loop-edge-preserved : goal.loop-edge-preserved
loop-edge-preserved g c =
    let start = c.args.start in
    let network = c.args.network in
    let edges = c.args.edges.now in
    let i = c.loop-edge.edge-index in
    let edge = get_or edges i no_edge in
    let old = c.loop-edge.steps.keys in
    let at = get_or_default edges i no_edge edge c.loop-edge-test.true in
    elim c.match-onward.branch [
      | in-Some+in_ok-insert w ↦
          first_more (IsStepOnward start network) edges i edge _ old _ c.loop-edge-test.true at c.loop-edge.invariant
          (step_onward old _ start network edge w.in-Some.router (sym c.onward.ensures ∙ w.in-Some.is)
          (ap (λ s. s.keys) w.steps-is ∙ w.in_ok-insert.ensures.keys ∙ ap (insert_key step_cmp old) w.step.ensures))
      | in_default w ↦
          first_more (IsStepOnward start network) edges i edge _ old _ c.loop-edge-test.true at c.loop-edge.invariant
          (subst (λ (l : List WayStep). Inserts (IsStepOnward start network edge) old l) (sym (ap (λ s. s.keys) w.steps-is))
          (no_step_onward old start network edge (sym c.onward.ensures ∙ w.in_default.is)))
    ]

pub returns : goal.returns
returns g c =
    let onward = IsStepOnward c.args.start c.args.network in
    let edges = c.args.edges.now in
    inserts_both (IsToTarget c.args.start c.args.network c.args.targets.now) (λ step. (e : LeastEdge) × Contains edges e × onward e step)
    c.args.steps.now.keys c.insert_target.new.steps.keys c.loop-edge.steps.keys c.in_ok-insert_target.ensures
    (first_all onward edges c.loop-edge.edge-index _ c.loop-edge.steps.keys c.loop-edge-test.false c.loop-edge.invariant)
