use Rattle.std.proofs.Common.{◌++◌, List, map, take}
use Rattle.lsa_codec.specs.Prefix.{Net}
use Rattle.best_ways.specs.Best.{Gathers}
use Rattle.best_ways.specs.Candidate.{Candidate}
use Rattle.area_routes.specs.Intra.{intra_candidate}
use Rattle.area_routes.specs.steps.OneArea.{offered}
use Rattle.area_routes.proofs.intra_area.add_intra_candidates.Given as goal

-- the ways have taken the offers of the routes so far into account
abbrev pub invariant-loop-route : goal.invariant-loop-route
invariant-loop-route g l =
    (cs : List (Candidate Net)) → Gathers cs l.fn.ways
    → Gathers (cs ++ map (λ r. intra_candidate l.area.area (offered r)) (take l.route-index l.routes)) l.ways
