use Rattle.std.proofs.Common.{◌≢◌, ◌≤◌, ◌∙◌, sym, subst, ap, map, length, List, ℕ}
use Rattle.std.specs.List.{AllPairs}
use Rattle.std.proofs.lemmas.List.{length-map}
use Rattle.std.proofs.lemmas.Result.{IfOk-weaker}
use Rattle.area_graph.specs.declared.vertex.Vertex.{Vertex}
use Rattle.area_graph.specs.Topology.{Topology}
use Rattle.area_graph.specs.Area.{vertex_of}
use Rattle.area_graph.specs.steps.Drafts.{IsDraft}
use Rattle.area_graph.specs.Graphs.{IsGraphOf}
use Rattle.area_graph.proofs.GraphLemmas.{built}
use Rattle.area_graph.proofs.NamedRows.{rows_within}
use Rattle.area_graph.proofs.UsedLemmas.{vertices_distinct, vertices_few}
use Rattle.area_graph.proofs.build.graph_of.Goals as goal

pub vertices-requires : goal.vertices-requires
vertices-requires g c =
    subst (λ (us : List (List ℕ)). AllPairs (λ v w. v ≢ w) (map vertex_of us)) (sym (c.deref.ensures.value ∙ c.in_ok-used.ensures))
    (vertices_distinct c.args.lsas c.requires.accepted c.requires.distinct)

pub new-requires : goal.new-requires
new-requires g c =
    rows_within c.in_ok-vertices.vertices.keys c.deref-2.result.now c.in_ok-naming.naming
    (ap (λ (vs : List Vertex). length vs) (c.in_ok-vertices.ensures ∙ ap (map vertex_of) (c.deref.ensures.value ∙ sym c.deref-2.ensures.value))
    ∙ length-map c.deref-2.result.now vertex_of)
    c.in_ok-naming.ensures

pub naming_rows-requires-clause-distinct : goal.naming_rows-requires-clause-distinct
naming_rows-requires-clause-distinct g c =
    subst (λ (vs : List Vertex). AllPairs (λ v w. v ≢ w) vs)
    (sym (c.in_ok-vertices.ensures ∙ ap (map vertex_of) (c.deref.ensures.value ∙ c.in_ok-used.ensures)))
    (vertices_distinct c.args.lsas c.requires.accepted c.requires.distinct)

pub naming_rows-requires-clause-few : goal.naming_rows-requires-clause-few
naming_rows-requires-clause-few g c =
    subst (λ (vs : List Vertex). length vs ≤ 8192)
    (sym (c.in_ok-vertices.ensures ∙ ap (map vertex_of) (c.deref.ensures.value ∙ c.in_ok-used.ensures)))
    (vertices_few c.args.lsas c.requires.few)

pub new-requires-2-clause-distinct : goal.new-requires-2-clause-distinct
new-requires-2-clause-distinct g c =
    subst (λ (vs : List Vertex). AllPairs (λ v w. v ≢ w) vs)
    (sym (c.in_ok-vertices.ensures ∙ ap (map vertex_of) (c.deref.ensures.value ∙ c.in_ok-used.ensures)))
    (vertices_distinct c.args.lsas c.requires.accepted c.requires.distinct)

pub new-requires-2-clause-few : goal.new-requires-2-clause-few
new-requires-2-clause-few g c =
    subst (λ (vs : List Vertex). length vs ≤ 8192)
    (sym (c.in_ok-vertices.ensures ∙ ap (map vertex_of) (c.deref.ensures.value ∙ c.in_ok-used.ensures)))
    (vertices_few c.args.lsas c.requires.few)

pub into_graph-requires : goal.into_graph-requires
into_graph-requires g c =
    (built c.args.lsas c.deref.result.now c.deref-2.result.now c.requires
    (c.deref.ensures.value ∙ c.in_ok-used.ensures) (c.deref-2.ensures.value ∙ c.in_ok-used.ensures)
    c.in_ok-vertices.vertices.keys c.in_ok-vertices.ensures c.in_ok-back_links.back_links (c.in_ok-back_links.ensures ∙ c.in_ok-naming.ensures)
    c.in_ok-draft.draft c.add_edges.new.draft c.in_ok-draft.ensures.vertices c.in_ok-draft.ensures.empty c.in_ok-add_edges.ensures.vertices
    (subst IsDraft c.draft.view_is c.draft.invariant) c.in_ok-add_edges.ensures.edges).shape

pub returns : goal.returns
returns g c =
    IfOk-weaker c.into_graph.result _ _
    (λ graph is. subst (λ (t : Topology). IsGraphOf c.args.lsas t) (sym is)
    (built c.args.lsas c.deref.result.now c.deref-2.result.now c.requires
    (c.deref.ensures.value ∙ c.in_ok-used.ensures) (c.deref-2.ensures.value ∙ c.in_ok-used.ensures)
    c.in_ok-vertices.vertices.keys c.in_ok-vertices.ensures c.in_ok-back_links.back_links (c.in_ok-back_links.ensures ∙ c.in_ok-naming.ensures)
    c.in_ok-draft.draft c.add_edges.new.draft c.in_ok-draft.ensures.vertices c.in_ok-draft.ensures.empty c.in_ok-add_edges.ensures.vertices
    (subst IsDraft c.draft.view_is c.draft.invariant) c.in_ok-add_edges.ensures.edges))
    c.into_graph.ensures
