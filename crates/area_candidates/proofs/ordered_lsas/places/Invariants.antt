use Rattle.std.proofs.Common.{◌≡◌, map}
use Rattle.std.specs.List.{filter_map}
use Rattle.area_candidates.specs.InOrder.{place_if}
use Rattle.area_candidates.proofs.ordered_lsas.places.Given as goal

-- the places of the LSAs so far
abbrev pub invariant-loop-lsa : goal.invariant-loop-lsa
invariant-loop-lsa g l = l.places.items ≡ filter_map (place_if l.kind l.net) (map (λ lsa. lsa.now) l.yielded)
