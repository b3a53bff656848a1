use Rattle.std.proofs.Common.{List, ◌++◌, ap, ◌∙◌}
use Rattle.std.specs.List.{filter_map}
use Rattle.area_graph.specs.declared.edge.Edge.{Edge}
use Rattle.least_paths.specs.steps.Rows.{least_at}
use Rattle.least_paths.proofs.Pushing.{all_pushed, no_edge, none_pushed, one_pushed}
use Rattle.least_paths.proofs.edge_rows.push_row.Goals as goal

pub loop-edge-init : goal.loop-edge-init
loop-edge-init g c =
    none_pushed (least_at c.args.graph.now c.args.tree.now.distances c.args.marks.now c.args.from) c.args.found.now.items c.edges-edge-items.result.now

pub loop-edge-preserved : goal.loop-edge-preserved
loop-edge-preserved g c =
    one_pushed (least_at c.args.graph.now c.args.tree.now.distances c.args.marks.now c.args.from) c.args.found.now.items c.edges-edge-items.result.now
    c.loop-edge.edge-index no_edge _ _ c.loop-edge-test.true c.loop-edge.invariant c.in_ok-push_edge.ensures

pub returns : goal.returns
returns g c =
    let of = least_at c.args.graph.now c.args.tree.now.distances c.args.marks.now c.args.from in
    all_pushed of c.args.found.now.items c.edges-edge-items.result.now c.loop-edge.edge-index c.loop-edge.found.items c.loop-edge-test.false
    c.loop-edge.invariant
    ∙ ap (λ (row : List Edge). c.args.found.now.items ++ filter_map of row) c.edges-edge-items.ensures.row
