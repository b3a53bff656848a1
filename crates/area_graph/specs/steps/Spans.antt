-- Lists that are kept one after another in one list.
use Rattle.std.specs.Prelude.{ℕ, ◌≤◌, List, map}
use Rattle.std.specs.List.{slice_range}
use Rattle.area_graph.specs.declared.rows.Span.{Span}

-- a span of a list of this length
abbrev pub IsWithin : ℕ → Span → Type 0
IsWithin size span = (span.start ≤ span.end) × (span.end ≤ size)

-- the lists in the spans of a list
abbrev pub rows_at : {X : Type 0} → List X → List Span → List (List X)
rows_at xs spans = map (λ span. slice_range xs span.start span.end) spans
