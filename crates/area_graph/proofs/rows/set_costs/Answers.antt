use Rattle.std.proofs.Common.{ap, ◌∙◌, arith, length, ◌<◌, slice_set}
use Rattle.std.proofs.lemmas.List.{get_or_default}
use Rattle.std.proofs.lemmas.List.Edits.{map_over_more}
use Rattle.area_graph.specs.declared.edge.Edge.{Edge}
use Rattle.area_graph.specs.steps.CostRows.{with_cost}
use Rattle.area_graph.proofs.rows.set_costs.Goals as goal

pub loop-index-preserved : goal.loop-index-preserved
loop-index-preserved c =
    let lt : c.loop-index.index < length c.loop-index.row = omega (arith, c.loop-index.auto.row, c.loop-index-test.true) in
    ap (λ (e : Edge). slice_set c.loop-index.row c.loop-index.index e) c.with_cost.ensures
    ∙ map_over_more (with_cost c.args.to c.args.link_data c.args.cost) c.args.row.now c.loop-index.row c.loop-index.index _ c.loop-index-test.true
    c.loop-index.invariant (get_or_default c.loop-index.row c.loop-index.index _ _ lt)
