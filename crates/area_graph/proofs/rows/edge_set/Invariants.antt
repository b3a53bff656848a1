use Rattle.std.proofs.Common.{◌≡◌, take}
use Rattle.area_graph.specs.Rows.{same_edge, each_once}
use Rattle.area_graph.proofs.rows.edge_set.Given as goal

abbrev pub invariant-loop-edge : goal.invariant-loop-edge
invariant-loop-edge g l = l.edges.keys ≡ each_once same_edge (take l.edge-index l.row)
