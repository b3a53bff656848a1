-- External routes that would be others with RFC1583Compatibility (RFC 2328, 16.4.1): then no class of ways inside the AS is
-- preferred, so of the ways to an AS boundary router the one of least cost is taken, and of several the one of the greatest Area
-- ID.
use Rattle.std.specs.Prelude.{Bool, false, ◌&&◌, ◌==◌, not, List, [], filter, map}
use Rattle.std.specs.List.{flat_map}
use Rattle.std.specs.Cmp.Lexicographic.{pointwise}
use Rattle.std.specs.Option.{option_map_or}
use Rattle.std.specs.Ordering.{eq_by_cmp}
use Rattle.lsa_codec.specs.Prefix.{Net}
use Rattle.lsdb.specs.Lists.{Lists}
use Rattle.next_hops.specs.Hop.{hop_cmp}
use Rattle.best_ways.specs.Order.{path_number}
use Rattle.best_ways.specs.Routes.{nets, route_to}
use Rattle.best_ways.specs.Values.{RouteValue}
use Rattle.best_ways.specs.declared.rank.PathType.TheVariants.{Inter}
use Rattle.area_routes.specs.Values.{EntryValue}
use Rattle.area_routes.specs.declared.entry.EntryKind.{EntryKind}
use Rattle.area_routes.specs.declared.entry.EntryKind.TheVariants.{Border, AsbrIntra, AsbrInter}
use Rattle.external_routes.specs.External.{externals_of}
use Rattle.routing_table.specs.Routers.{attached_routers}
use Rattle.audit_places.specs.Places.{PlaceValue}
use Rattle.audit_routes.specs.OwnExternals.{route_places}
use Rattle.audit_routes.specs.Ways.{WaysValue, ways_of}

-- ---- ways without a class: the first class has intra-area ways through areas other than the backbone

-- a route inside the AS as one through no area, which is of no class
abbrev pub classless_route : RouteValue → RouteValue
classless_route r = record r { kind = Inter; areas = [] }

abbrev pub classless_kind : EntryKind → EntryKind
classless_kind Border = Border
classless_kind AsbrIntra = AsbrInter
classless_kind AsbrInter = AsbrInter

-- an entry of an AS boundary router as one by a summary-LSA, which is of no class
abbrev pub classless_entry : EntryValue → EntryValue
classless_entry e = record e { kind = classless_kind e.kind }

-- all ways of a router so
abbrev pub classless : WaysValue → WaysValue
classless w = record w { routes = map classless_route w.routes; entries = map classless_entry w.entries }

-- ---- routes that depend on it

-- the external routes of a router's table with these ways inside the AS: to prefixes that it has no route inside the AS to
abbrev pub externals_over : Lists → WaysValue → List RouteValue
externals_over db w = externals_of db w.router w.routes w.entries

-- two routes to one prefix have the same type, costs and next hops; external routes have no areas
abbrev pub same_route : RouteValue → RouteValue → Bool
same_route a b =
    (path_number a.kind == path_number b.kind) && ((a.cost == b.cost) && ((a.cost2 == b.cost2) && pointwise (eq_by_cmp hop_cmp) a.hops b.hops))

-- a route, where there is no such route to its prefix among others
abbrev pub is_dependent : List RouteValue → RouteValue → Bool
is_dependent others r = not (option_map_or (same_route r) (route_to others r.net) false)

abbrev pub dependent_nets : List RouteValue → List RouteValue → List Net
dependent_nets others routes = nets (filter (is_dependent others) routes)

-- a router with the prefixes of the external routes that its ways give, and that they do not give without classes
abbrev pub dependent_places : Lists → WaysValue → List PlaceValue
dependent_places db w = route_places w.router (dependent_nets (externals_over db (classless w)) (externals_over db w))

-- of each attached router such prefixes, in order
abbrev pub rfc1583_places : Lists → List PlaceValue
rfc1583_places db = flat_map (λ router. dependent_places db (ways_of db router)) (attached_routers db)
