-- Routes by the best ways, and routes in a list of them (RFC 2328, 11).
use Rattle.std.specs.Prelude.{List, [], ◌∷◌, Bool, Option, None, Some, is_some, map}
use Rattle.std.specs.List.{find}
use Rattle.std.specs.List.Sorted.{IsStrictlySortedBy}
use Rattle.std.specs.Ordering.{eq_by_cmp}
use Rattle.lsa_codec.specs.declared.address.AreaId.{AreaId}
use Rattle.lsa_codec.specs.Prefix.{Net}
use Rattle.best_ways.specs.Values.{RouteValue, WayValue}
use Rattle.best_ways.specs.Best.{ways_of}
use Rattle.best_ways.specs.Candidate.{Candidate}
use Rattle.lsa_codec.specs.Order.{prefix_cmp}

-- the route to a prefix by the best way
abbrev pub route_of : Net × WayValue → RouteValue
route_of e = record { net = e.0; kind = e.1.rank.path; areas = e.1.areas; cost = e.1.rank.cost; cost2 = e.1.rank.cost2; hops = e.1.hops }

-- one area, or those of a way
abbrev pub areas_through : Option AreaId → List AreaId → List AreaId
areas_through None areas = areas
areas_through (Some area) areas = area ∷ []

-- the route to a prefix by the best way, through one area, or through those of the way
abbrev pub route_through : Option AreaId → Net × WayValue → RouteValue
route_through area e = record (route_of e) { areas = areas_through area e.1.areas }

-- the routes by the best ways of candidates, in order of prefix
abbrev pub routes_of : List (Candidate Net) → List RouteValue
routes_of cs = map route_of (ways_of prefix_cmp cs)

-- the prefixes of routes
abbrev pub nets : List RouteValue → List Net
nets routes = map (λ r. r.net) routes

-- routes are in order of prefix, one for each
abbrev pub AreSortedRoutes : List RouteValue → Type 0
AreSortedRoutes routes = IsStrictlySortedBy prefix_cmp (nets routes)

-- the route to a prefix
abbrev pub route_to : List RouteValue → Net → Option RouteValue
route_to routes net = find (λ r. eq_by_cmp prefix_cmp net r.net) routes

-- whether a prefix has a route
abbrev pub has_route : List RouteValue → Net → Bool
has_route routes net = is_some (route_to routes net)
