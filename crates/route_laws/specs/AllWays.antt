-- All ways to prefixes within the areas of a router and between areas, of whatever cost (RFC 2328, 16.1 and 16.2).
use Rattle.std.specs.Prelude.{ℕ, ◌++◌, List, [], Bool, ◌&&◌, map}
use Rattle.std.specs.List.{filter, flat_map}
use Rattle.std.specs.Option.{option_map_or}
use Rattle.lsa_codec.specs.declared.address.RouterId.{RouterId}
use Rattle.lsa_codec.specs.Prefix.{Net}
use Rattle.lsdb.specs.declared.section.Section.TheVariants.{Area}
use Rattle.lsdb.specs.Lists.{AreaHead, Lists, lsas_of}
use Rattle.area_graph.specs.Area.{used}
use Rattle.area_routes.specs.declared.entry.EntryKind.TheVariants.{Border}
use Rattle.best_ways.specs.Candidate.{Candidate}
use Rattle.area_routes.specs.Inter.{by_border, examined, inter_of, announced_network, originator_of, same_kind, same_router, usable_metric}
use Rattle.area_routes.specs.Intra.{intra_candidate}
use Rattle.area_routes.specs.Networks.{network_offers}
use Rattle.area_routes.specs.Reached.{ReachedValue, reached_from}
use Rattle.best_ways.specs.Routes.{routes_of}
use Rattle.area_routes.specs.Stubs.{stub_offers}
use Rattle.area_routes.specs.Values.{AreaResultValue, EntryValue, OfferValue}
use Rattle.best_ways.specs.Values.{RouteValue}
use Rattle.routing_table.specs.AreaLsas.{lsas_in}
use Rattle.routing_table.specs.Preferring.{preferring}
use Rattle.routing_table.specs.Tables.{results_in}

-- ---- within areas

-- what the vertices that are reached offer: each network that is chosen of those of its prefix, and each stub link of each router
abbrev pub all_offers : RouterId → List ReachedValue → List OfferValue
all_offers root rs = network_offers rs ++ stub_offers root rs

-- the ways that an area's vertices offer
abbrev pub ways_in : Lists → RouterId → AreaHead → List (Candidate Net)
ways_in db router area = map (intra_candidate (record { 0 = area.id })) (all_offers router (reached_from router (used (lsas_in db area))))

-- those of all these areas
abbrev pub ways_within : Lists → RouterId → List AreaHead → List (Candidate Net)
ways_within db router areas = flat_map (ways_in db router) areas

-- ---- between areas

-- whether an entry is that of a router as an area border router
abbrev pub is_border_entry : RouterId → EntryValue → Bool
is_border_entry router e = same_kind e.kind Border && same_router e.router router

module _ (router : RouterId) (area : AreaResultValue) (intra : List RouteValue) where
  -- the ways over all entries of the summary-LSA's originator as an area border router, at the LSA's metric
  abbrev pub ways_over : List ℕ → Net → ℕ → List (Candidate Net)
  ways_over lsa net metric = map (by_border net area.area metric) (filter (is_border_entry (originator_of lsa)) area.entries)

  -- the ways by a summary-LSA: none where it is not usable, or where its prefix has an intra-area route
  abbrev pub ways_by : List ℕ → List (Candidate Net)
  ways_by lsa = option_map_or (λ net. option_map_or (ways_over lsa net) (usable_metric router lsa) []) (announced_network intra lsa) []

-- the ways by all summary-LSAs of the examined area
abbrev pub ways_between : Lists → RouterId → List AreaResultValue → List RouteValue → List (Candidate Net)
ways_between db router results intra = option_map_or (λ area. flat_map (ways_by router area intra) (lsas_of (Area area.area) db)) (examined results) []

-- ---- both

-- to each prefix the best of all ways within these areas, else the best of all ways between areas
module _ (db : Lists) (router : RouterId) (areas : List AreaHead) where
  abbrev pub best_within : List RouteValue
  best_within = routes_of (ways_within db router areas)

  abbrev pub best_inside : List RouteValue
  best_inside = preferring best_within (routes_of (ways_between db router (results_in db router areas) best_within))

  -- the router entries of all areas, and those by summary-LSAs
  abbrev pub entries_inside : List EntryValue
  entries_inside = (inter_of db router (results_in db router areas) best_within).routers
