use Rattle.std.proofs.Common.{◌≡◌, filter, map}
use Rattle.lsdb.specs.Slots.{lists_of}
use Rattle.network_departures.specs.Leaving.{is_left}
use Rattle.network_departures.proofs.leaving.networks_left.Given as goal

-- those of the LSAs so far
abbrev pub invariant-loop-lsa : goal.invariant-loop-lsa
invariant-loop-lsa g l = l.networks.items ≡ filter (is_left (lists_of l.database) l.event l.area) (map (λ lsa. lsa.now) l.yielded)
