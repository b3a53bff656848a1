-- External routes (RFC 2328, 16.4).
use Rattle.std.specs.Prelude.{ℕ, ◌+◌, ◌&&◌, ◌==◌, List, [], Bool, if◌then◌else◌, Option, None, Some, map, nat_lt, not}
use Rattle.std.specs.List.{filter_map}
use Rattle.std.specs.Option.{option_and_then, option_map}
use Rattle.lsa_codec.specs.LsTypes.{external_lsa}
use Rattle.lsa_codec.specs.declared.address.Addr.{Addr}
use Rattle.lsa_codec.specs.declared.address.RouterId.{RouterId}
use Rattle.lsa_codec.specs.Fields.{kind_of}
use Rattle.lsa_codec.specs.Prefix.{Net}
use Rattle.lsa_codec.specs.Views.{forward_of, is_type2_of, metric_of, net_of_lsa, ls_infinity}
use Rattle.lsdb.specs.declared.section.Section.TheVariants.{AsWide}
use Rattle.lsdb.specs.Lists.{Lists, lsas_of}
use Rattle.area_graph.specs.Area.{is_live}
use Rattle.next_hops.specs.declared.hop.Hop.{Hop}
use Rattle.next_hops.specs.Hop.{extended}
use Rattle.best_ways.specs.declared.rank.PathType.TheVariants.{Ext1, Ext2}
use Rattle.best_ways.specs.declared.rank.Rank.{Rank}
use Rattle.area_routes.specs.Values.{EntryValue}
use Rattle.best_ways.specs.Values.{RouteValue}
use Rattle.best_ways.specs.Candidate.{Candidate}
use Rattle.area_routes.specs.Inter.{originator_of, same_router}
use Rattle.best_ways.specs.Routes.{has_route, routes_of}
use Rattle.external_routes.specs.Flooding.{is_attached_outside_stubs}
use Rattle.external_routes.specs.Choose.{entry_class, forward_match, preferred, route_class}

-- the forwarding address; 0 means the originator itself (A.4.5)
abbrev pub forward_address : List ℕ → Addr
forward_address lsa = record { 0 = forward_of lsa }

-- what an external path is compared by, where `cost` is that of the way to the originator or to the forwarding address: for
-- type 2 by the metric of the LSA, then by class, then by that cost; for type 1 by class, then by the sum of the two (16.4)
abbrev pub external_rank : List ℕ → ℕ → ℕ → Rank
external_rank lsa class cost =
    if is_type2_of lsa then record { path = Ext2; cost2 = metric_of lsa; class = class; cost = cost } else record { path = Ext1; cost2 = 0; class = class; cost = cost + metric_of lsa }

-- the path of an AS-external-LSA over a way of this class, cost and hops
abbrev pub external_path : List ℕ → ℕ → ℕ → List Hop → Candidate Net
external_path lsa class cost hops = record { key = net_of_lsa lsa; rank = external_rank lsa class cost; area = None; hops = hops }

-- over an entry of the originator
abbrev pub path_by_entry : List ℕ → EntryValue → Candidate Net
path_by_entry lsa e = external_path lsa (entry_class e) e.cost e.hops

-- over a route to the forwarding address, which is the gateway where the route's network is attached
abbrev pub path_by_route : List ℕ → RouteValue → Candidate Net
path_by_route lsa r = external_path lsa (route_class r) r.cost (map (λ hop. extended hop (forward_address lsa)) r.hops)

-- over the originator's preferred entry, or over the route of the longest prefix that covers the forwarding address, if
-- there is one
abbrev pub path_over : List RouteValue → List ℕ → EntryValue → Option (Candidate Net)
path_over routes lsa e = if forward_of lsa == 0 then Some (path_by_entry lsa e) else option_map (path_by_route lsa) (forward_match routes (forward_address lsa))

-- an AS-external-LSA that is live, has a metric below LSInfinity, and was originated by another router
abbrev pub is_examined : RouterId → List ℕ → Bool
is_examined router lsa = (kind_of lsa == external_lsa) && (is_live lsa && (nat_lt (metric_of lsa) ls_infinity && not (same_router (originator_of lsa) router)))

-- the path of an LSA that is examined, where the prefix has no other route and the originator has an entry as an AS boundary
-- router
abbrev pub external_candidate : RouterId → List RouteValue → List EntryValue → List ℕ → Option (Candidate Net)
external_candidate router routes entries lsa =
    if is_examined router lsa then
    (if has_route routes (net_of_lsa lsa) then None else option_and_then (path_over routes lsa) (preferred entries (originator_of lsa)))
    else None

-- the paths of a router; AS-external-LSAs are not flooded into stub areas (3.6), so it has none where all its
-- areas are stub areas
abbrev pub external_candidates : Lists → RouterId → List RouteValue → List EntryValue → List (Candidate Net)
external_candidates db router routes entries =
    if is_attached_outside_stubs db router then filter_map (external_candidate router routes entries) (lsas_of AsWide db) else []

-- the external routes of a router, from its intra-area and inter-area routes and its router entries: to each prefix the best
-- paths, joined
unfoldable pub externals_of : Lists → RouterId → List RouteValue → List EntryValue → List RouteValue
externals_of db router routes entries = routes_of (external_candidates db router routes entries)
