use Rattle.std.proofs.Common.{◌≡◌, take}
use Rattle.std.specs.List.{filter_map}
use Rattle.routing_table.specs.Preferring.{preferred_route}
use Rattle.audit_routes.proofs.preferring.preferred_routes.Given as goal

-- the routes to the prefixes so far
abbrev pub invariant-loop-net : goal.invariant-loop-net
invariant-loop-net g l = l.routes.items ≡ filter_map (preferred_route l.first l.second) (take l.net-index l.nets)
