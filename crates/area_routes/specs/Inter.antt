-- Inter-area routes, and router entries of all areas (RFC 2328, 16.2).
use Rattle.std.specs.Prelude.{ℕ, ◌+◌, List, [], ◌∷◌, ◌++◌, Bool, ◌&&◌, ◌==◌, not, if◌then◌else◌, Option, None, Some, is_some, map, nat_lt, ◌||◌}
use Rattle.std.specs.List.{filter_map, flat_map, find}
use Rattle.std.specs.Option.{option_and_then, option_map}
use Rattle.lsa_codec.specs.Areas.{is_backbone}
use Rattle.lsa_codec.specs.LsTypes.{summary_lsa, asbr_summary_lsa}
use Rattle.lsa_codec.specs.declared.address.AreaId.{AreaId}
use Rattle.lsa_codec.specs.declared.address.RouterId.{RouterId}
use Rattle.lsa_codec.specs.Fields.{kind_of, link_state_id_of, advertising_router_of}
use Rattle.lsa_codec.specs.Prefix.{Net}
use Rattle.lsa_codec.specs.Views.{metric_of, net_of_summary, ls_infinity}
use Rattle.lsdb.specs.declared.section.Section.TheVariants.{Area}
use Rattle.lsdb.specs.Lists.{Lists, lsas_of}
use Rattle.area_graph.specs.Area.{is_live}
use Rattle.best_ways.specs.declared.rank.PathType.TheVariants.{Inter}
use Rattle.area_routes.specs.declared.entry.EntryKind.{EntryKind}
use Rattle.area_routes.specs.declared.entry.EntryKind.TheVariants.{Border, AsbrIntra, AsbrInter}
use Rattle.area_routes.specs.Values.{AreaResultValue, EntryValue, InterValue}
use Rattle.best_ways.specs.Values.{RouteValue, WayValue}
use Rattle.best_ways.specs.Best.{ways_of}
use Rattle.best_ways.specs.Candidate.{Candidate}
use Rattle.lsa_codec.specs.Order.{router_cmp}
use Rattle.best_ways.specs.Routes.{has_route, routes_of}

-- ---- the area whose summary-LSAs are examined

-- the backbone's result
abbrev pub backbone : List AreaResultValue → Option AreaResultValue
backbone results = find (λ r. is_backbone r.area) results

-- the only area, or the backbone alone where there are several
abbrev pub examined : List AreaResultValue → Option AreaResultValue
examined [] = None
examined (r ∷ []) = Some r
examined (r ∷ s ∷ rest) = backbone (r ∷ s ∷ rest)

-- ---- entries

abbrev pub same_router : RouterId → RouterId → Bool
same_router a b = a.0 == b.0

abbrev pub kind_number : EntryKind → ℕ
kind_number Border = 0
kind_number AsbrIntra = 1
kind_number AsbrInter = 2

abbrev pub same_kind : EntryKind → EntryKind → Bool
same_kind a b = kind_number a == kind_number b

-- the entry of a router of some kind
abbrev pub find_entry : EntryKind → List EntryValue → RouterId → Option EntryValue
find_entry kind entries router = find (λ e. same_kind e.kind kind && same_router e.router router) entries

-- the entry of a router as an area border router
abbrev pub border_of : List EntryValue → RouterId → Option EntryValue
border_of entries router = find_entry Border entries router

-- whether a router is an AS boundary router of the area
abbrev pub has_asbr : List EntryValue → RouterId → Bool
has_asbr entries router = is_some (find_entry AsbrIntra entries router)

-- ---- summary-LSAs

abbrev pub is_summary : List ℕ → Bool
is_summary lsa = (kind_of lsa == summary_lsa) || (kind_of lsa == asbr_summary_lsa)

-- the router that originated an LSA
abbrev pub originator_of : List ℕ → RouterId
originator_of lsa = record { 0 = advertising_router_of lsa }

-- the router that the Link State ID of a summary-LSA of type 4 names
abbrev pub named_router : List ℕ → RouterId
named_router lsa = record { 0 = link_state_id_of lsa }

-- a summary-LSA that is live, below LSInfinity, and of another originator than the calculating router
abbrev pub is_usable : RouterId → List ℕ → Bool
is_usable router lsa = is_summary lsa && (is_live lsa && (nat_lt (metric_of lsa) ls_infinity && not (same_router (originator_of lsa) router)))

-- the metric of such a summary-LSA
abbrev pub usable_metric : RouterId → List ℕ → Option ℕ
usable_metric router lsa = if is_usable router lsa then Some (metric_of lsa) else None

-- the prefix of a summary-LSA of type 3, where it has no intra-area route
abbrev pub announced_network : List RouteValue → List ℕ → Option Net
announced_network intra lsa = option_and_then (λ net. if has_route intra net then None else Some net) (net_of_summary lsa)

-- the way by an entry of the originator, at the summary's metric
abbrev pub by_border : {K : Type 0} → K → AreaId → ℕ → EntryValue → Candidate K
by_border key area metric b = record { key = key; rank = record { path = Inter; cost2 = 0; class = 0; cost = b.cost + metric }; area = Some area; hops = b.hops }

-- the entry of an AS boundary router of another area
abbrev pub asbr_entry : AreaId → RouterId × WayValue → EntryValue
asbr_entry area e = record { router = e.0; area = area; kind = AsbrInter; cost = e.1.rank.cost; hops = e.1.hops }

module _ (router : RouterId) (area : AreaResultValue) where
  -- the way to a destination by a summary-LSA
  abbrev pub candidate_to : {K : Type 0} → List ℕ → K → Option (Candidate K)
  candidate_to lsa key = option_and_then (λ metric. option_map (by_border key area.area metric) (border_of area.entries (originator_of lsa))) (usable_metric router lsa)

  -- the router of a summary-LSA of type 4, where it is not the calculating router and not an AS boundary router of the area
  abbrev pub announced_asbr : List ℕ → Option RouterId
  announced_asbr lsa =
      if (kind_of lsa == asbr_summary_lsa) && (not (same_router (named_router lsa) router) && not (has_asbr area.entries (named_router lsa))) then Some (named_router lsa) else None

  -- the way to a prefix of another area
  abbrev pub network_candidate : List RouteValue → List ℕ → Option (Candidate Net)
  network_candidate intra lsa = option_and_then (candidate_to lsa) (announced_network intra lsa)

  -- the way to an AS boundary router of another area
  abbrev pub asbr_candidate : List ℕ → Option (Candidate RouterId)
  asbr_candidate lsa = option_and_then (candidate_to lsa) (announced_asbr lsa)

  -- the routes by the summary-LSAs among these LSAs
  abbrev pub inter_routes : List RouteValue → List (List ℕ) → List RouteValue
  inter_routes intra lsas = routes_of (filter_map (network_candidate intra) lsas)

  -- the entries by the summary-LSAs among these LSAs, in order of the routers
  abbrev pub inter_entries : List (List ℕ) → List EntryValue
  inter_entries lsas = map (asbr_entry area.area) (ways_of router_cmp (filter_map asbr_candidate lsas))

-- ---- all together

-- the routes and entries by the LSAs of the examined area; none where no area is examined
abbrev pub routes_by : Lists → RouterId → List RouteValue → Option AreaResultValue → List RouteValue
routes_by lists router intra None = []
routes_by lists router intra (Some area) = inter_routes router area intra (lsas_of (Area area.area) lists)

abbrev pub entries_by : Lists → RouterId → Option AreaResultValue → List EntryValue
entries_by lists router None = []
entries_by lists router (Some area) = inter_entries router area (lsas_of (Area area.area) lists)

-- the entries of all areas, area by area
abbrev pub entries_of_all : List AreaResultValue → List EntryValue
entries_of_all results = flat_map (λ r. r.entries) results

-- the inter-area routes of a router, and all its router entries: those of its areas, and then those of AS boundary routers
-- of other areas
unfoldable pub inter_of : Lists → RouterId → List AreaResultValue → List RouteValue → InterValue
inter_of lists router results intra = record {
  routes = routes_by lists router intra (examined results);
  routers = entries_of_all results ++ entries_by lists router (examined results);
}
