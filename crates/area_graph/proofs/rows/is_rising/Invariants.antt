use Rattle.std.proofs.Common.{◌<◌}
use Rattle.area_graph.proofs.EachOnce.{RiseBelow}
use Rattle.area_graph.proofs.rows.is_rising.Given as goal

abbrev pub invariant-loop-index : goal.invariant-loop-index
invariant-loop-index l = (0 < l.index) × RiseBelow l.row l.index
