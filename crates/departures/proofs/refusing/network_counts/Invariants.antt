use Rattle.std.proofs.Common.{◌≡◌, length, map, take}
use Rattle.lsdb.specs.Slots.{lists_of}
use Rattle.network_departures.specs.Leaving.{networks_left}
use Rattle.departures.proofs.refusing.network_counts.Given as goal

-- the numbers of the areas so far
abbrev pub invariant-loop-area : goal.invariant-loop-area
invariant-loop-area g l = l.counts.items ≡ map (λ area. length (networks_left (lists_of l.database) l.event area)) (take l.area-index l.areas)
