use Rattle.std.proofs.Common.{◌≡◌, ◌++◌, take}
use Rattle.audit_routes.specs.OwnExternals.{route_places}
use Rattle.audit_routes.proofs.places.push_routes.Given as goal

-- the places of the prefixes so far were added
abbrev pub invariant-loop-net : goal.invariant-loop-net
invariant-loop-net g l = l.places.items ≡ l.initial.places.items ++ route_places l.router (take l.net-index l.nets)
