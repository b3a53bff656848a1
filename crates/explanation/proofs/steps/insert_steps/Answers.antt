use Rattle.std.proofs.Common.{subst, sym, ◌≡◌}
use Rattle.std.proofs.lemmas.Result.{on_ok_weaker}
use Rattle.area_graph.specs.declared.vertex.Vertex.{Vertex}
use Rattle.area_candidates.proofs.InsertingLemmas.{Inserts}
use Rattle.explanation.specs.declared.way_step.WayStep.{WayStep}
use Rattle.explanation.specs.steps.Edges.{IsStepTo}
use Rattle.explanation.proofs.steps.insert_steps.Goals as goal

pub returns-in-Router : goal.returns-in-Router
returns-in-Router g c =
    let old = c.args.steps.now.keys in
    let new = c.insert_step.new.steps.keys in
    on_ok_weaker c.insert_step.result
    (λ ins. subst (λ (v : Vertex). Inserts (IsStepTo c.args.start c.args.edges.now c.args.targets.now v) old new) (sym c.in-Router.is)
    (subst (λ (k : WayStep). Inserts (λ step. step ≡ k) old new) c.step.ensures ins)) c.insert_step.ensures

pub returns-in-Network : goal.returns-in-Network
returns-in-Network g c =
    on_ok_weaker c.insert_over.result
    (λ ins. subst (λ (v : Vertex). Inserts (IsStepTo c.args.start c.args.edges.now c.args.targets.now v) c.args.steps.now.keys c.insert_over.new.steps.keys)
    (sym c.in-Network.is) ins) c.insert_over.ensures
