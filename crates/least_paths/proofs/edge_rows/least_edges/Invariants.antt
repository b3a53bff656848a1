use Rattle.std.proofs.Common.{◌≡◌, ◌≤◌, length}
use Rattle.least_paths.specs.steps.Rows.{least_rows}
use Rattle.least_paths.proofs.edge_rows.least_edges.Given as goal

-- the edges of the vertices so far
abbrev pub invariant-loop-from : goal.invariant-loop-from
invariant-loop-from g l =
    (l.from ≤ length l.graph.vertices) × (l.found.items ≡ least_rows l.graph l.tree.distances l.marks.items l.from)
