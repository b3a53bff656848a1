use Rattle.std.proofs.Common.{◌≡◌, take}
use Rattle.std.specs.List.{flat_map}
use Rattle.lsdb.specs.Slots.{lists_of}
use Rattle.forwarding.specs.Matches.{router_in}
use Rattle.audit_routes.specs.OwnExternals.{own_places}
use Rattle.audit_routes.proofs.own_external.places_of.Given as goal

-- the places of the routers so far
abbrev pub invariant-loop-router : goal.invariant-loop-router
invariant-loop-router g l =
    l.places.items ≡ flat_map (λ router. own_places (router_in (lists_of l.database) router)) (take l.router-index l.router-items)
