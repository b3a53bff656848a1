use Rattle.area_candidates.proofs.InsertingLemmas.{Inserts, OfFirst}
use Rattle.explanation.specs.steps.Edges.{IsStepOnward}
use Rattle.explanation.proofs.steps.insert_over.Given as goal

-- the steps of the edges so far
abbrev pub invariant-loop-edge : goal.invariant-loop-edge
invariant-loop-edge g l = Inserts (OfFirst (IsStepOnward l.start l.network) l.edges l.edge-index) l.initial.steps.keys l.steps.keys
