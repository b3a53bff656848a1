use Rattle.area_candidates.proofs.InsertingLemmas.{Inserts, OfFirst}
use Rattle.first_ends.specs.steps.Ends.{IsEndOf}
use Rattle.first_ends.proofs.neighbors.insert_over.Given as goal

-- the ends of the edges so far
abbrev pub invariant-loop-edge : goal.invariant-loop-edge
invariant-loop-edge g l =
    Inserts (OfFirst (IsEndOf l.router l.interface) l.edges l.edge-index) l.initial.found.keys l.found.keys
