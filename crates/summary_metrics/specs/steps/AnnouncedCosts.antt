-- The costs that area border routers announce in summary-LSAs, without whole routes: the cost within the areas of the
-- originator, or else the minimum over the backbone summaries for the same destination (RFC 2328, 12.4.3, 16.1 and 16.2).
use Rattle.std.specs.Prelude.{◌≡◌, ℕ, ◌+◌, ◌<◌, ◌^◌, ◌++◌, ◌∷◌, nat_lt, List, [], Bool, true, ◌&&◌, ◌==◌, if◌then◌else◌, Option, None, Some, IfSome, not}
use Rattle.std.specs.List.{filter_map, list_any}
use Rattle.std.specs.Option.{option_and_then, option_map, option_map_or, option_or}
use Rattle.std.specs.Map.{lookup}
use Rattle.std.specs.Ordering.{eq_by_cmp, nat_cmp}
use Rattle.lsa_codec.specs.Areas.{is_backbone}
use Rattle.lsa_codec.specs.declared.address.AreaId.{AreaId}
use Rattle.lsa_codec.specs.declared.address.RouterId.{RouterId}
use Rattle.lsa_codec.specs.Order.{prefix_cmp, router_cmp}
use Rattle.lsa_codec.specs.Prefix.{Net}
use Rattle.lsa_codec.specs.Views.{ls_infinity, net_of_summary}
use Rattle.lsdb.specs.Lists.{Lists}
use Rattle.area_graph.specs.Least.{least}
use Rattle.area_routes.specs.Inter.{border_of, entries_of_all, originator_of, same_router}
use Rattle.area_routes.specs.Intra.{intra_of}
use Rattle.best_ways.specs.Routes.{route_to}
use Rattle.area_routes.specs.Values.{AreaResultValue, EntryValue}
use Rattle.best_ways.specs.Values.{RouteValue}
use Rattle.external_routes.specs.Choose.{preferred}
use Rattle.external_routes.specs.Summaries.{asbr_of_summary, is_among, metric_for}
use Rattle.summary_metrics.specs.declared.sources.Source.{Source}
use Rattle.area_routes.specs.AreaResults.{results_of}
use Rattle.summary_metrics.specs.BackboneSummaries.{AreAnnounced, BackboneSummariesValue, asbr_named, backbone_lsas, sources, sources_or_none}
use Rattle.summary_metrics.specs.SummaryMetrics.{backbone_entries}

-- ---- the areas of an originator

-- whether an area other than this one is among some areas
abbrev pub has_another : AreaId → List AreaId → Bool
has_another area areas = list_any (λ a. not (a.0 == area.0)) areas

-- whether this area and another one are among the areas of a router
abbrev pub is_border_of : AreaId → List AreaId → Bool
is_border_of area areas = is_among area areas && has_another area areas

-- ---- costs over the backbone summaries

-- the backbone summaries for a prefix
abbrev pub net_sources : Lists → Net → List Source
net_sources db net = sources prefix_cmp net_of_summary (backbone_lsas db) net

-- the backbone summaries for an AS boundary router
abbrev pub asbr_sources : Lists → RouterId → List Source
asbr_sources db asbr = sources router_cmp asbr_named (backbone_lsas db) asbr

module _ (router : RouterId) (entries : List EntryValue) where
  -- the sum of the cost to an originator, one of these area border routers, and its metric; none for the router
  -- itself
  abbrev pub cost_over : Source → Option ℕ
  cost_over s = if same_router s.originator router then None else option_map (λ b. b.cost + s.metric) (border_of entries s.originator)

  -- the least of these costs
  abbrev pub announced_cost : List Source → Option ℕ
  announced_cost all = least nat_cmp (filter_map cost_over all)

-- ---- costs that are announced

-- the cost of an intra-area route, and none where one of its paths leads through the area
abbrev pub route_cost : AreaId → RouteValue → Option ℕ
route_cost area r = if is_among area r.areas then None else Some r.cost

-- the cost of an entry, and none where it is of the area
abbrev pub entry_cost : AreaId → EntryValue → Option ℕ
entry_cost area e = if e.area.0 == area.0 then None else Some e.cost

-- the cost by the backbone summaries, where there is none within the areas of the originator; into the
-- backbone no such cost is announced
abbrev pub else_announced : AreaId → Option (Option ℕ) → Option ℕ → Option ℕ
else_announced area None announced = if is_backbone area then None else announced
else_announced area (Some own) announced = own

module _ (db : Lists) (area : AreaId) (router : RouterId) (results : List AreaResultValue) where
  -- the cost of a prefix that is announced into the area
  abbrev pub net_cost : Net → Option ℕ
  net_cost net =
      else_announced area (option_map (route_cost area) (route_to (intra_of results) net)) (announced_cost router (backbone_entries results) (net_sources db net))

  -- the cost of an AS boundary router that is announced into the area; no router announces itself
  abbrev pub asbr_cost : RouterId → Option ℕ
  asbr_cost asbr =
      else_announced area (option_map (entry_cost area) (preferred (entries_of_all results) asbr))
      (if same_router asbr router then None else announced_cost router (backbone_entries results) (asbr_sources db asbr))

  -- the cost of the destination of an LSA of the area
  abbrev pub cost_by_backbone : List ℕ → Option ℕ
  cost_by_backbone lsa = option_or (option_and_then net_cost (net_of_summary lsa)) (option_and_then asbr_cost (asbr_of_summary db area lsa))

-- the metric that an LSA of an area should have
abbrev pub due_by_backbone : Lists → AreaId → List ℕ → ℕ
due_by_backbone db area lsa = option_map_or metric_for (cost_by_backbone db area (originator_of lsa) (results_of db (originator_of lsa)) lsa) ls_infinity

-- ---- what is kept of the backbone summaries

-- one more source
abbrev pub more_sources : Option (List Source) → Source → List Source
more_sources o source = sources_or_none o ++ source ∷ []

-- the backbone summaries, which may be missing for LSAs of the backbone
abbrev pub IsAnnouncedFor : Lists → AreaId → Option BackboneSummariesValue → Type 0
IsAnnouncedFor db area None = is_backbone area ≡ true
IsAnnouncedFor db area (Some announced) = AreAnnounced (backbone_lsas db) announced

-- ---- what is kept of area border routers

-- each cost is below 2^33
abbrev pub CostsBelow : List (RouterId × ℕ) → Type 0
CostsBelow costs = (router : RouterId) → IfSome (lookup (eq_by_cmp router_cmp router) costs) (λ cost. cost < 2 ^ 33)

module _ (router : RouterId) (costs : List (RouterId × ℕ)) where
  -- the cost over a source, by these costs
  abbrev pub cost_from : Source → Option ℕ
  cost_from s =
      if same_router s.originator router then None else option_map (λ cost. cost + s.metric) (lookup (eq_by_cmp router_cmp s.originator) costs)

  -- the minimum over some sources
  abbrev pub announced_from : List Source → Option ℕ
  announced_from all = least nat_cmp (filter_map cost_from all)

-- the lesser of the least cost so far and another cost, if there is one
abbrev pub lesser_cost : Option ℕ → Option ℕ → Option ℕ
lesser_cost None cost = cost
lesser_cost (Some least) None = Some least
lesser_cost (Some least) (Some cost) = Some (if nat_lt cost least then cost else least)
