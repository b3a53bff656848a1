use Rattle.std.proofs.lemmas.Result.{IfOk-weaker}
use Rattle.area_graph.specs.declared.vertex.Vertex.TheVariants.{Router}
use Rattle.area_graph.specs.Area.{used}
use Rattle.area_graph.specs.AreaEdges.{area_edges}
use Rattle.area_candidates.specs.Views.{lsas_in}
use Rattle.first_ends.proofs.EdgesTo.{edges_are_those}
use Rattle.first_ends.proofs.neighbors.edges_to.Goals as goal

pub returns : goal.returns
returns g c =
    let view = c.args.view.now in
    let vertices = c.args.vertices.now in
    let edges = area_edges (used (lsas_in view)) in
    let root = Router view.router in
    let is = c.graph_and_tree.ensures in
    IfOk-weaker c.least_edges.result _ _
    (λ found least. edges_are_those view vertices _ found.items (least root is.of_graph)
    (λ e here. c.least_paths_by_distances.ensures edges root vertices e here)
    (λ e on. c.edges_on_least_paths.ensures.start edges root vertices e on)
    (λ e. c.edges_on_least_paths.ensures.paths _ edges is.of_area.edges root vertices e)
    (λ v d. c.edges_on_least_paths.ensures.costs _ edges is.of_area.edges root v d))
    c.least_edges.ensures
