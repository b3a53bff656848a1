use Rattle.std.proofs.Common.{◌≡◌, ℕ, length, map, get_or, []}
use Rattle.area_graph.proofs.draft.empty_rows.Given as goal

abbrev pub invariant-loop : goal.invariant-loop
invariant-loop g l = (length l.rows.items ≡ l.counter) × ((i : ℕ) → get_or (map (λ row. row.items) l.rows.items) i [] ≡ [])
