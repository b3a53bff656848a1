use Rattle.std.proofs.Common.{◌≡◌, map, take}
use Rattle.audit_routes.specs.Compatibility.{classless_route}
use Rattle.audit_routes.proofs.classless.classless_routes.Given as goal

-- the routes so far
abbrev pub invariant-loop-route : goal.invariant-loop-route
invariant-loop-route g l = l.all.items ≡ map classless_route (take l.route-index l.route-items)
