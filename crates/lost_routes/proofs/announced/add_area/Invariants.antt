use Rattle.std.proofs.Common.{map}
use Rattle.std.specs.List.{filter_map, flat_map}
use Rattle.lost_routes.specs.Announced.{live_networks, summary_prefix}
use Rattle.lost_routes.specs.Gathering.{Gathers}
use Rattle.lost_routes.proofs.announced.add_area.Given as goal

-- the prefixes of the LSAs so far were added
abbrev pub invariant-loop-lsa : goal.invariant-loop-lsa
invariant-loop-lsa g l =
    Gathers (flat_map live_networks (map (λ lsa. lsa.now) l.yielded)) l.initial.networks.keys l.networks.keys
    × Gathers (filter_map summary_prefix (map (λ lsa. lsa.now) l.yielded)) l.initial.summaries.keys l.summaries.keys
