use Rattle.std.proofs.Common.{List, ℕ, ap, subst, ◌∙◌}
use Rattle.std.specs.List.{Contains}
use Rattle.lsa_codec.specs.declared.address.AreaId.{AreaId}
use Rattle.lsdb.specs.declared.section.Section.TheVariants.{Area}
use Rattle.lsdb.specs.Lists.{lsas_of}
use Rattle.lsdb.specs.Slots.{lists_of}
use Rattle.area_graph.specs.declared.vertex.Vertex.TheVariants.{Router}
use Rattle.area_graph.specs.declared.vertex.Vertex.{Vertex}
use Rattle.area_graph.specs.Paths.{DirectedEdge}
use Rattle.area_graph.specs.Area.{used}
use Rattle.area_graph.specs.AreaEdges.{area_edges}
use Rattle.area_candidates.specs.Views.{lsas_in}
use Rattle.explanation.specs.WaySteps.{IsOnWay}
use Rattle.explanation.specs.steps.Resting.{IsLsaOnPaths, IsVertexRestBy}
use Rattle.area_candidates.proofs.InsertingLemmas.{Inserts, first_all, first_more, first_none, inserts_as}
use Rattle.explanation.proofs.OnPaths.{OfUsed, of_used}
use Rattle.explanation.proofs.rests.insert_paths.Goals as goal

pub loop-vertex-init : goal.loop-vertex-init
loop-vertex-init g c =
    first_none (IsLsaOnPaths c.args.view.now c.args.targets.now c.args.edges.now) c.deref-vertex-items.result.now c.args.rests.now.keys

pub loop-vertex-preserved : goal.loop-vertex-preserved
loop-vertex-preserved g c =
    let of = IsLsaOnPaths c.args.view.now c.args.targets.now c.args.edges.now in
    let old = c.loop-vertex.rests.keys in
    let new = c.insert_vertex.new.rests.keys in
    first_more of c.deref-vertex-items.result.now c.loop-vertex.vertex-index c.vertex-item.result c.args.rests.now.keys old new
    c.loop-vertex-test.true c.vertex-item.is c.loop-vertex.invariant
    (subst (λ (lsa : List ℕ). Inserts (of lsa) old new) c.lsa.ensures c.in_ok-insert_vertex.ensures)

pub returns : goal.returns
returns g c =
    let view = c.args.view.now in
    let targets = c.args.targets.now in
    let edges = c.args.edges.now in
    let list = c.deref-vertex-items.result.now in
    let old = c.args.rests.now.keys in
    let new = c.loop-vertex.rests.keys in
    let near = λ (e : DirectedEdge Vertex) (on : IsOnWay view targets e). (c.edges_on_least_paths.ensures.start (area_edges (used (lsas_in view))) (Router view.router) targets e on).1 in
    let is = c.deref-vertex-items.ensures.value ∙ c.in_ok-used.ensures
    ∙ ap used (c.lsas.ensures.lsas ∙ ap (λ (a : AreaId). lsas_of (Area a) (lists_of c.database.result.now)) c.area.ensures
    ∙ ap (lsas_of (Area view.area)) c.database.ensures) in
    inserts_as (OfUsed view targets edges c.requires near) (IsVertexRestBy view targets) old new (of_used view targets edges c.requires near)
    (subst (λ (l : List (List ℕ)). Inserts (λ rest. (lsa : List ℕ) × Contains l lsa × IsLsaOnPaths view targets edges lsa rest) old new) is
    (first_all (IsLsaOnPaths view targets edges) list c.loop-vertex.vertex-index old new c.loop-vertex-test.false c.loop-vertex.invariant))
