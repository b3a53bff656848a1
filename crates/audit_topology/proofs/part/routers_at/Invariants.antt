use Rattle.std.proofs.Common.{◌≡◌, take}
use Rattle.std.specs.List.{filter_map}
use Rattle.audit_topology.specs.steps.Numbers.{router_at}
use Rattle.audit_topology.proofs.part.routers_at.Given as goal

-- the routers that have the numbers so far
abbrev pub invariant-loop-number : goal.invariant-loop-number
invariant-loop-number g l = l.routers.items ≡ filter_map (router_at l.graph) (take l.number-index l.numbers)
