use Rattle.std.proofs.Common.{List, ap, subst, ◌∙◌}
use Rattle.std.specs.List.{Contains}
use Rattle.lsa_codec.specs.declared.address.RouterId.{RouterId}
use Rattle.area_graph.specs.declared.vertex.Vertex.{Vertex}
use Rattle.least_paths.specs.declared.least_edge.LeastEdge.{LeastEdge}
use Rattle.area_candidates.proofs.InsertingLemmas.{Inserts, inserts_as}
use Rattle.first_ends.specs.FirstEnds.{first_ends_in, vertices_in}
use Rattle.first_ends.specs.steps.Ends.{AreEdgesTo, IsEndOver}
use Rattle.first_ends.proofs.EndsOver.{ends_in}
use Rattle.first_ends.proofs.neighbors.insert_ends.Goals as goal

pub returns : goal.returns
returns g c =
    let view = c.args.view.now in
    let targets = c.args.targets.now in
    let edges = c.in_ok-edges.edges.items in
    let same = c.deref.ensures.value ∙ c.in_ok-vertices.ensures ∙ ap (λ area. vertices_in area targets) c.area.ensures in
    let are = subst (λ (vs : List Vertex). AreEdgesTo view vs edges) same c.in_ok-edges.ensures in
    let old = c.args.found.now.keys in
    let new = c.insert_over.new.found.keys in
    inserts_as (IsEndOver view.router c.args.interface edges) (λ end. Contains (first_ends_in c.args.interface targets view) end) old new
    (ends_in view targets c.args.interface edges are)
    (subst (λ (es : List LeastEdge). Inserts (IsEndOver view.router c.args.interface es) old new) c.deref-2.ensures.value
    (subst (λ (router : RouterId). Inserts (IsEndOver router c.args.interface c.deref-2.result.now) old new) c.router.ensures c.in_ok-insert_over.ensures))
