use Rattle.std.proofs.Common.{[]}
use Rattle.std.specs.List.{Contains}
use Rattle.area_candidates.proofs.InsertingLemmas.{Inserts, OfFirst}
use Rattle.first_ends.specs.FirstEnds.{first_ends_in}
use Rattle.first_ends.proofs.neighbors.first_ends.Given as goal

-- the neighbors over the interface in the areas so far
abbrev pub invariant-loop-area : goal.invariant-loop-area
invariant-loop-area g l =
    Inserts (OfFirst (λ view end. Contains (first_ends_in l.interface l.targets view) end) l.area-items l.area-index) [] l.found.keys
