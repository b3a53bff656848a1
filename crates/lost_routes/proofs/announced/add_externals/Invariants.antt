use Rattle.std.proofs.Common.{map}
use Rattle.std.specs.List.{filter_map}
use Rattle.lost_routes.specs.Announced.{external_prefix}
use Rattle.lost_routes.specs.Gathering.{Gathers}
use Rattle.lost_routes.proofs.announced.add_externals.Given as goal

-- the prefixes of the LSAs so far were added
abbrev pub invariant-loop-lsa : goal.invariant-loop-lsa
invariant-loop-lsa g l = Gathers (filter_map external_prefix (map (λ lsa. lsa.now) l.yielded)) l.initial.nets.keys l.nets.keys
