use Rattle.std.proofs.Common.{◌∙◌, subst, List}
use Rattle.area_graph.specs.declared.vertex.Vertex.{Vertex}
use Rattle.area_graph.specs.steps.Drafts.{Adds, row_arcs}
use Rattle.area_graph.proofs.AddedEdges.{arcs_more}
use Rattle.area_graph.proofs.links.add_edges.Goals as goal

pub loop-from-preserved : goal.loop-from-preserved
loop-from-preserved g c = (
  c.in_ok-add_row.ensures.vertices ∙ c.loop-from.invariant.0,
  arcs_more c.args.draft.now.vertices c.args.back_links.now c.loop-from.from c.args.draft.now c.loop-from.draft c.add_row.new.draft
      c.loop-from.invariant.1
      (subst (λ (vs : List Vertex). Adds (row_arcs vs c.args.back_links.now c.loop-from.from) c.loop-from.draft c.add_row.new.draft)
      c.loop-from.invariant.0 c.in_ok-add_row.ensures.edges),
)
