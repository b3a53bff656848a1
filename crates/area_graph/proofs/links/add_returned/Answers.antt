use Rattle.std.proofs.Common.{◌∙◌, subst, List, [], ◌∷◌}
use Rattle.area_graph.specs.declared.vertex.Vertex.{Vertex}
use Rattle.area_graph.specs.steps.Drafts.{Adds, arc_of, returned_arcs}
use Rattle.area_graph.proofs.AddedEdges.{returned_more}
use Rattle.area_graph.proofs.EachOnce.{no_edge, edge_at}
use Rattle.area_graph.proofs.links.add_returned.Goals as goal

pub loop-edge-preserved : goal.loop-edge-preserved
loop-edge-preserved g c = (
  c.in_ok-add_edge.ensures.vertices ∙ c.loop-edge.invariant.0,
  returned_more c.args.draft.now.vertices c.args.back_links.now c.args.from c.args.row.now c.loop-edge.edge-index no_edge
      c.args.draft.now c.loop-edge.draft c.add_edge.new.draft c.loop-edge-test.true c.loop-edge.invariant.1
      (subst (λ (vs : List Vertex). Adds (returned_arcs vs c.args.back_links.now (arc_of c.args.from (edge_at c.args.row.now c.loop-edge.edge-index) ∷ [])) c.loop-edge.draft c.add_edge.new.draft)
      c.loop-edge.invariant.0 c.in_ok-add_edge.ensures.edges),
)
