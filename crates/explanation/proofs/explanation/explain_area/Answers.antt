use Rattle.std.proofs.Common.{List, ap, subst, sym, ◌++◌, ◌∙◌}
use Rattle.std.proofs.lemmas.Result.{on_ok_weaker}
use Rattle.lsa_codec.specs.declared.address.AreaId.{AreaId}
use Rattle.area_graph.specs.declared.vertex.Vertex.{Vertex}
use Rattle.explanation.specs.WaySteps.{AreSteps, AreTargetsIn}
use Rattle.explanation.specs.steps.Resting.{IsVertexRestBy}
use Rattle.area_candidates.proofs.InsertingLemmas.{Inserts}
use Rattle.explanation.proofs.Areas.{explains}
use Rattle.explanation.proofs.explanation.explain_area.Goals as goal

pub returns : goal.returns
returns g c =
    let view = c.args.view.now in
    let targets = c.args.targets.now in
    let vertices = c.in_ok-vertices.vertices.items in
    let are : AreTargetsIn targets view.area vertices =
    subst (λ (area : AreaId). AreTargetsIn targets area vertices) c.area.ensures c.in_ok-vertices.ensures in
    on_ok_weaker c.insert_paths.result
    (λ ins. explains view targets vertices are c.in_ok-steps_in.field-0.items c.args.ways.now.items _ c.args.rests.now.keys _
    (subst (λ (l : List Vertex). AreSteps view l c.in_ok-steps_in.field-0.items) c.deref-2.ensures.value c.in_ok-steps_in.ensures.steps)
    c.in_ok-append.ensures.items
    (subst (λ (l : List Vertex). Inserts (IsVertexRestBy view l) c.args.rests.now.keys c.insert_paths.new.rests.keys) c.deref-4.ensures.value ins))
    c.insert_paths.ensures
