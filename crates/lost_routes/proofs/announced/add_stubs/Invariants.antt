use Rattle.std.specs.List.{filter_map}
use Rattle.lsa_codec.specs.Links.{stub_net}
use Rattle.lost_routes.specs.Gathering.{Gathers}
use Rattle.lost_routes.proofs.announced.add_stubs.Given as goal

-- the prefixes of the links so far were added
abbrev pub invariant-loop-link : goal.invariant-loop-link
invariant-loop-link g l = Gathers (filter_map stub_net l.yielded) l.initial.nets.keys l.nets.keys
