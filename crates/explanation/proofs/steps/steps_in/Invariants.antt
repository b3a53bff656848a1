use Rattle.std.proofs.Common.{[]}
use Rattle.area_candidates.proofs.InsertingLemmas.{Inserts, OfFirst}
use Rattle.explanation.proofs.StepsFound.{IsFrom}
use Rattle.explanation.proofs.steps.steps_in.Given as goal

-- the steps of the edges so far
abbrev pub invariant-loop-edge : goal.invariant-loop-edge
invariant-loop-edge g l =
    Inserts (OfFirst (IsFrom l.view l.targets l.edges) l.edges l.edge-index) [] l.steps.keys
