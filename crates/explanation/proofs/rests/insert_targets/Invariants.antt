use Rattle.area_candidates.proofs.InsertingLemmas.{Inserts, OfFirst}
use Rattle.explanation.specs.steps.Resting.{IsByRest}
use Rattle.explanation.proofs.rests.insert_targets.Given as goal

-- those of the targets so far
abbrev pub invariant-loop-target : goal.invariant-loop-target
invariant-loop-target g l =
    Inserts (OfFirst IsByRest l.targets l.target-index) l.initial.rests.keys l.rests.keys
