use Rattle.std.proofs.Common.{map}
use Rattle.std.specs.List.{filter_map}
use Rattle.lost_routes.specs.Gathering.{Gathers}
use Rattle.audit_routes.specs.Missing.{announced_net}
use Rattle.audit_routes.proofs.announced.announced_nets.Given as goal

-- the prefixes of the LSAs so far were added
abbrev pub invariant-loop-lsa : goal.invariant-loop-lsa
invariant-loop-lsa g l = Gathers (filter_map (announced_net l.router) (map (λ lsa. lsa.now) l.yielded)) l.initial.nets.keys l.nets.keys
