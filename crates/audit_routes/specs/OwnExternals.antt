-- Prefixes that routers announce themselves as external ones, and that their tables have other routes to: the calculation skips
-- a router's own AS-external-LSAs (RFC 2328, 16.4 (2)).
use Rattle.std.specs.Prelude.{ℕ, Bool, false, ◌&&◌, List, filter, map}
use Rattle.std.specs.List.{flat_map}
use Rattle.std.specs.Option.{option_map_or}
use Rattle.lsa_codec.specs.Order.{router_cmp}
use Rattle.lsa_codec.specs.Prefix.{Net}
use Rattle.lsa_codec.specs.declared.address.RouterId.{RouterId}
use Rattle.lsdb.specs.Lists.{Lists}
use Rattle.area_graph.specs.Rising.{rising}
use Rattle.area_routes.specs.Inter.{originator_of}
use Rattle.best_ways.specs.Routes.{has_route}
use Rattle.forwarding.specs.Matches.{RouterValue, router_in}
use Rattle.router_entries.specs.Entries.{entry_for, is_own_external}
use Rattle.routing_table.specs.Routers.{attached_routers}
use Rattle.audit_places.specs.Places.{PlaceValue, at_route}

-- a router with each of some prefixes
abbrev pub route_places : RouterId → List Net → List PlaceValue
route_places router nets = map (λ net. at_route router net) nets

-- the router uses an external prefix of its own, and its table has a route to the prefix
abbrev pub hides_route : RouterValue → Net → Bool
hides_route r net = option_map_or is_own_external (entry_for r net) false && has_route r.routes net

abbrev pub hiding_nets : RouterValue → List Net
hiding_nets r = filter (hides_route r) r.own

abbrev pub own_places : RouterValue → List PlaceValue
own_places r = route_places r.router (hiding_nets r)

-- the originators of some LSAs, in order
abbrev pub originators_of : List (List ℕ) → List RouterId
originators_of lsas = rising router_cmp (map originator_of lsas)

-- of each attached router such prefixes, in order
abbrev pub own_external_places : Lists → List PlaceValue
own_external_places db = flat_map (λ router. own_places (router_in db router)) (attached_routers db)
