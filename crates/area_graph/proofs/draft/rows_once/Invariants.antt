use Rattle.std.proofs.Common.{◌≡◌, take, map}
use Rattle.area_graph.specs.Rows.{same_edge, each_once}
use Rattle.area_graph.proofs.draft.rows_once.Given as goal

abbrev pub invariant-loop-row : goal.invariant-loop-row
invariant-loop-row g l = l.once ≡ map (each_once same_edge) (map (λ row. row.items) (take l.row-index l.rows))
