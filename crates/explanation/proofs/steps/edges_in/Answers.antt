use Rattle.area_graph.specs.declared.vertex.Vertex.TheVariants.{Router}
use Rattle.area_graph.specs.Area.{used}
use Rattle.area_graph.specs.AreaEdges.{area_edges}
use Rattle.area_candidates.specs.Views.{lsas_in}
use Rattle.std.proofs.lemmas.Result.{IfOk-weaker}
use Rattle.explanation.proofs.EdgesIn.{are_in}
use Rattle.explanation.proofs.steps.edges_in.Goals as goal

pub least_edges-requires : goal.least_edges-requires
least_edges-requires g c = (Router c.args.view.now.router, c.graph_and_tree.ensures.of_graph)

pub returns : goal.returns
returns g c =
    let view = c.args.view.now in
    let is = c.graph_and_tree.ensures in
    let graph = c.graph_and_tree.result.0.now in
    let root = Router view.router in
    let edges = area_edges (used (lsas_in view)) in
    let laws = c.edges_on_least_paths.ensures in
    IfOk-weaker c.least_edges.result _ _
    (λ found are. are_in view c.args.targets.now graph c.graph_and_tree.result.1.now is found.items (are root is.of_graph)
    (laws.start edges root c.args.targets.now)
    (laws.paths graph edges (is.of_area).edges root c.args.targets.now)
    (laws.costs graph edges (is.of_area).edges root))
    c.least_edges.ensures
