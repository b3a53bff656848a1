use Rattle.std.proofs.Common.{◌≡◌, ◌++◌, take}
use Rattle.std.specs.List.{filter_map}
use Rattle.audit_routes.specs.Missing.{missing_net}
use Rattle.audit_routes.proofs.missing_nets.push_nets.Given as goal

-- the places of the routes so far were added
abbrev pub invariant-loop-route : goal.invariant-loop-route
invariant-loop-route g l =
    l.places.items ≡ l.initial.places.items ++ filter_map (missing_net l.area l.ways.router l.nets.keys) (take l.route-index l.route-items)
