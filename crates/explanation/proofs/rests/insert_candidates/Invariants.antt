use Rattle.area_candidates.proofs.InsertingLemmas.{Inserts, OfFirst}
use Rattle.explanation.specs.steps.Resting.{IsUsedRest}
use Rattle.explanation.proofs.rests.insert_candidates.Given as goal

-- the LSAs of the used candidates so far
abbrev pub invariant-loop-candidate : goal.invariant-loop-candidate
invariant-loop-candidate g l =
    Inserts (OfFirst IsUsedRest l.candidates l.candidate-index) l.initial.rests.keys l.rests.keys
