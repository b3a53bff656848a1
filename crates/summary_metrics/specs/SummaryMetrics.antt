-- What is kept for the originators of summary-LSAs: their areas, the trees that were calculated for them, the results of their
-- areas, and the backbone summaries.
use Rattle.std.specs.Prelude.{◌≡◌, ℕ, List, [], Option, IfSome, All, map}
use Rattle.std.specs.List.{filter}
use Rattle.std.specs.Option.{option_map, option_map_or}
use Rattle.std.specs.Map.{lookup}
use Rattle.std.specs.Ordering.{eq_by_cmp}
use Rattle.lsa_codec.specs.declared.address.AreaId.{AreaId}
use Rattle.lsa_codec.specs.declared.address.RouterId.{RouterId}
use Rattle.lsa_codec.specs.Order.{router_cmp}
use Rattle.lsdb.specs.Lists.{Lists}
use Rattle.area_routes.specs.Inter.{backbone, border_of, entries_of_all}
use Rattle.area_routes.specs.Intra.{intra_of}
use Rattle.area_routes.specs.Values.{AreaResultValue, EntryValue}
use Rattle.best_ways.specs.Values.{RouteValue}
use Rattle.area_routes.specs.Attached.{attached_areas}
use Rattle.external_routes.specs.Choose.{is_asbr_kind}
use Rattle.routing_table.specs.AreasTrees.{KeptTreesValue, AreOfDatabase}
use Rattle.area_routes.specs.AreaResults.{results_of}
use Rattle.summary_metrics.specs.Refreshed.{id_of}
use Rattle.summary_metrics.specs.BackboneSummaries.{AreAnnounced, BackboneSummariesValue, backbone_lsas}

-- the intra-area routes of a router, the entries of AS boundary routers of its areas, and the costs of the area border routers of
-- the backbone
pub record InsideValue : Type 0 where
  pub routes : List RouteValue
  pub entries : List EntryValue
  pub borders : List (RouterId × ℕ)

-- areas by the routers that are attached to them, trees by their areas, results of areas by their routers, and the backbone
-- summaries
pub record SummaryMetricsValue : Type 0 where
  pub attached : List (RouterId × List AreaId)
  pub trees : KeptTreesValue
  pub inside : List (RouterId × InsideValue)
  pub summaries : Option BackboneSummariesValue

-- the IDs of the areas that a router is attached to
abbrev pub ids_attached : Lists → RouterId → List AreaId
ids_attached db router = map id_of (attached_areas db router)

-- the entries of the backbone
abbrev pub backbone_entries : List AreaResultValue → List EntryValue
backbone_entries results = option_map_or (λ r. r.entries) (backbone results) []

-- each router has the cost of its entry as an area border router
abbrev pub HasCosts : List EntryValue → List (RouterId × ℕ) → Type 0
HasCosts entries costs = (router : RouterId) → lookup (eq_by_cmp router_cmp router) costs ≡ option_map (λ e. e.cost) (border_of entries router)

-- the entries of AS boundary routers
abbrev pub asbr_entries : List AreaResultValue → List EntryValue
asbr_entries results = filter (λ e. is_asbr_kind e.kind) (entries_of_all results)

-- routes, entries and costs are those of these results
pub record AreGiven (results : List AreaResultValue) (i : InsideValue) : Type 0 where
  pub routes : i.routes ≡ intra_of results
  pub entries : i.entries ≡ asbr_entries results
  pub borders : HasCosts (backbone_entries results) i.borders

-- they are those of the results of the router's areas in the database
abbrev pub AreInside : Lists → RouterId → InsideValue → Type 0
AreInside db router i = AreGiven (results_of db router) i

-- all of it follows from the database
pub record AreOf (db : Lists) (known : SummaryMetricsValue) : Type 0 where
  pub attached : All (λ e. e.1 ≡ ids_attached db e.0) known.attached
  pub trees : AreOfDatabase db known.trees
  pub inside : All (λ e. AreInside db e.0 e.1) known.inside
  pub summaries : IfSome known.summaries (AreAnnounced (backbone_lsas db))
