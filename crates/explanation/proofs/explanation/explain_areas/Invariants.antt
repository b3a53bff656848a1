use Rattle.explanation.specs.Whole.{IsRestIn, IsStepIn}
use Rattle.area_candidates.proofs.InsertingLemmas.{Inserts, OfFirst}
use Rattle.explanation.proofs.explanation.explain_areas.Given as goal

-- the steps and the LSAs of the areas so far
abbrev pub invariant-loop-view : goal.invariant-loop-view
invariant-loop-view g l =
    Inserts (OfFirst (IsStepIn l.targets) l.views l.view-index) l.initial.ways.items l.ways.items
    × Inserts (OfFirst (IsRestIn l.targets) l.views l.view-index) l.initial.rests.keys l.rests.keys
