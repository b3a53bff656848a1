use Rattle.std.proofs.Common.{map}
use Rattle.std.specs.List.{filter_map}
use Rattle.best_ways.specs.Best.{Gathers}
use Rattle.area_routes.specs.Inter.{asbr_candidate}
use Rattle.area_routes.proofs.inter_area.inter_entries.Given as goal

-- the ways have taken the LSAs so far into account
abbrev pub invariant-loop-lsa : goal.invariant-loop-lsa
invariant-loop-lsa g l = Gathers (filter_map (asbr_candidate l.router l.area) (map (λ lsa. lsa.now) l.yielded)) l.ways
