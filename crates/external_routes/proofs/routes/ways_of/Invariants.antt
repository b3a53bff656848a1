use Rattle.std.proofs.Common.{◌≡◌, take}
use Rattle.std.specs.List.{filter_map}
use Rattle.best_ways.specs.Best.{Gathers}
use Rattle.external_routes.specs.steps.Paths.{candidate_of}
use Rattle.external_routes.proofs.routes.ways_of.Given as goal

-- the ways inside are the same, and the ways have taken what the LSAs so far offer into account
abbrev pub invariant-loop-lsa : goal.invariant-loop-lsa
invariant-loop-lsa g l =
    (l.inside ≡ l.fn.inside) × Gathers (filter_map (candidate_of l.router l.fn.inside.routes l.fn.inside.entries) (take l.lsa-index l.lsas)) l.ways
