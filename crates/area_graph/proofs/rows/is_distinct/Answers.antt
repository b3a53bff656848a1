use Rattle.std.proofs.Common.{sym, ◌∙◌, take}
use Rattle.area_graph.proofs.EachOnce.{distinct-more, other_way, no_edge, edge_at}
use Rattle.area_graph.proofs.rows.is_distinct.Goals as goal

pub loop-index-preserved : goal.loop-index-preserved
loop-index-preserved c =
    distinct-more c.args.row.now c.loop-index.index no_edge c.loop-index-test.true c.loop-index.invariant
    (other_way (edge_at c.args.row.now c.loop-index.index) (take c.loop-index.index c.args.row.now) (sym c.contains.ensures.value ∙ c.if-contains.false))
