use Rattle.std.proofs.Common.{◌≡◌, ◌++◌, List, vec_len}
use Rattle.area_graph.specs.Rising.{rising}
use Rattle.area_candidates.specs.declared.ordered_lsas.Place.{Place}
use Rattle.area_candidates.specs.InOrder.{place_cmp}
use Rattle.area_candidates.proofs.ordered_lsas.in_order.Given as goal

-- the places from the last on
abbrev pub invariant-loop-place : goal.invariant-loop-place
invariant-loop-place g l = (rest : List Place) × (l.fn.places.items ≡ l.places.items ++ rest) × (l.found.keys ≡ rising place_cmp rest)

abbrev pub decreases-loop-place : goal.decreases-loop-place
decreases-loop-place g l = vec_len l.places
