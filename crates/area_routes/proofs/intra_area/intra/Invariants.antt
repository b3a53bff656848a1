use Rattle.std.proofs.Common.{◌^◌, take}
use Rattle.std.specs.List.{All, flat_map}
use Rattle.best_ways.specs.Best.{Gathers}
use Rattle.area_routes.specs.Intra.{intra_candidates}
use Rattle.area_routes.specs.Values.{ResultBelow}
use Rattle.area_routes.proofs.intra_area.intra.Given as goal

-- the ways have taken the offers of the areas so far into account, and these cost less than 2^33
abbrev pub invariant-loop-area : goal.invariant-loop-area
invariant-loop-area g l = Gathers (flat_map intra_candidates (take l.area-index l.results)) l.ways
    × All (ResultBelow (2 ^ 33)) (take l.area-index l.results)
