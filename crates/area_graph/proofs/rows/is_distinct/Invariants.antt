use Rattle.std.proofs.Common.{◌≡◌, take}
use Rattle.area_graph.specs.Rows.{same_edge, each_once}
use Rattle.area_graph.proofs.rows.is_distinct.Given as goal

abbrev pub invariant-loop-index : goal.invariant-loop-index
invariant-loop-index l = each_once same_edge (take l.index l.row) ≡ take l.index l.row
