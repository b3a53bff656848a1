use Rattle.std.proofs.Common.{◌≤◌, length}
use Rattle.area_graph.specs.declared.vertex.Vertex.{Vertex}
use Rattle.spf.specs.Distances.{IsTreeOf}
use Rattle.least_paths.proofs.Marking.{MarkedFrom}
use Rattle.least_paths.proofs.marks.marks.Given as goal

-- the vertices from the last on are decided
abbrev pub invariant-loop-i : goal.invariant-loop-i
invariant-loop-i g l =
    (l.i ≤ length l.order)
    × ((root : Vertex) → IsTreeOf l.graph root l.tree → MarkedFrom l.graph root l.tree l.targets l.i l.marks.items)
