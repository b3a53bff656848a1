use Rattle.area_candidates.proofs.InsertingLemmas.{Inserts, OfFirst}
use Rattle.explanation.specs.steps.Resting.{IsLsaOnPaths}
use Rattle.explanation.proofs.rests.insert_paths.Given as goal

-- those of the vertices so far
abbrev pub invariant-loop-vertex : goal.invariant-loop-vertex
invariant-loop-vertex g l =
    Inserts (OfFirst (IsLsaOnPaths l.view l.targets l.edges) l.vertex-items l.vertex-index) l.initial.rests.keys l.rests.keys
