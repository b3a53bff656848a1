use Rattle.std.proofs.Common.{◌≡◌, ◌≤◌, ◌++◌, Bool, List, length, ap, arith, subst, sym, ◌∙◌}
use Rattle.least_paths.specs.LeastPaths.{AreLeastEdges}
use Rattle.least_paths.specs.declared.least_edge.LeastEdge.{LeastEdge}
use Rattle.least_paths.specs.steps.Rows.{least_row, least_rows}
use Rattle.least_paths.proofs.Rows.{AreLeastEdges-rows, no_rows, row_more}
use Rattle.least_paths.proofs.edge_rows.least_edges.Goals as goal

pub loop-from-init : goal.loop-from-init
loop-from-init g c = (omega arith, c.new-found.ensures.items ∙ no_rows c.args.graph.now c.args.tree.now.distances c.in_ok-marks.marks.items)

pub loop-from-preserved : goal.loop-from-preserved
loop-from-preserved g c = (
  omega (arith, c.loop-from-test.true, c.len-from-end.ensures.count),
  row_more c.args.graph.now c.args.tree.now.distances c.in_ok-marks.marks.items c.loop-from.from c.loop-from.found.items _
      c.loop-from.invariant.1
      (c.in_ok-push_row.ensures
      ∙ ap (λ (marks : List Bool). c.loop-from.found.items ++ least_row c.args.graph.now c.args.tree.now.distances marks c.loop-from.from)
      c.deref.ensures.value),
)

pub push_row-requires-clause-sized : goal.push_row-requires-clause-sized
push_row-requires-clause-sized g c =
    let sized = (c.in_ok-marks.ensures c.requires.0 c.requires.1).sized in
    omega (arith, c.deref.ensures.len, sized)

pub returns : goal.returns
returns g c = λ root of.
    let t = c.args.graph.now in
    let tree = c.args.tree.now in
    let marks = c.in_ok-marks.marks.items in
    let past : length t.vertices ≤ c.loop-from.from = omega (arith, c.loop-from-test.false, c.len-from-end.ensures.count) in
    let low : c.loop-from.from ≤ length t.vertices = c.loop-from.invariant.0 in
    let all : c.loop-from.from ≡ length t.vertices = omega (arith, past, low) in
    subst (λ (l : List LeastEdge). AreLeastEdges t root c.args.targets.now l)
    (sym (c.loop-from.invariant.1 ∙ ap (least_rows t tree.distances marks) all))
    (AreLeastEdges-rows t c.len-from-end.ensures.shape root tree of c.args.targets.now marks (c.in_ok-marks.ensures root of))
