use Rattle.std.proofs.Common.{sym, ap, ◌∙◌, List}
use Rattle.indexmap.specs.IndexSet.{insert_key}
use Rattle.area_graph.specs.declared.edge.Edge.{Edge}
use Rattle.area_graph.specs.Rows.{same_edge}
use Rattle.area_graph.proofs.EachOnce.{each_once-more, no_edge, edge_at}
use Rattle.area_graph.proofs.rows.edge_set.Goals as goal

pub loop-edge-preserved : goal.loop-edge-preserved
loop-edge-preserved g c =
    c.in_ok-insert.ensures.keys
    ∙ ap (λ (es : List Edge). insert_key same_edge es (edge_at c.args.row.now c.loop-edge.edge-index)) c.loop-edge.invariant
    ∙ sym (each_once-more c.args.row.now c.loop-edge.edge-index no_edge c.loop-edge-test.true)
