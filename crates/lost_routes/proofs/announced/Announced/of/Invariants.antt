use Rattle.std.proofs.Common.{take}
use Rattle.std.specs.List.{filter_map, flat_map}
use Rattle.lsdb.specs.Lists.{areas_of}
use Rattle.lsdb.specs.Slots.{lists_of}
use Rattle.lost_routes.specs.Announced.{live_networks, summary_prefix}
use Rattle.lost_routes.specs.Gathering.{Gathers}
use Rattle.lost_routes.proofs.AreaNets.{among}
use Rattle.lost_routes.proofs.announced.Announced.of.Given as goal

-- the prefixes of the areas so far
abbrev pub invariant-loop-i : goal.invariant-loop-i
invariant-loop-i g l =
    Gathers (among (lists_of l.database) (flat_map live_networks) (take l.i (areas_of (lists_of l.database)))) l.initial.networks.keys l.networks.keys
    × Gathers (among (lists_of l.database) (filter_map summary_prefix) (take l.i (areas_of (lists_of l.database)))) l.initial.summaries.keys l.summaries.keys
