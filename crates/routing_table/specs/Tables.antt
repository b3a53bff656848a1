-- The routing table of a router, as a function of the link state database (RFC 2328, 11 and 16).
use Rattle.std.specs.Prelude.{◌≡◌, List, [], ◌∷◌, Option, None, Some}
use Rattle.lsa_codec.specs.declared.address.RouterId.{RouterId}
use Rattle.lsdb.specs.Lists.{AreaHead, Lists}
use Rattle.area_routes.specs.Values.{AreaResultValue, InterValue}
use Rattle.best_ways.specs.Values.{RouteValue}
pub use Rattle.area_routes.specs.AreaResults.{result_in, results_in}
use Rattle.area_routes.specs.Intra.{intra_of}
use Rattle.area_routes.specs.Inter.{inter_of}
use Rattle.area_routes.specs.Attached.{attached_areas}
use Rattle.external_routes.specs.External.{externals_of}
use Rattle.routing_table.specs.declared.table.TableFault.{TableFault}
use Rattle.routing_table.specs.declared.table.TableFault.TheVariants.{NoRouter, OutOfMemory}
use Rattle.routing_table.specs.Preferring.{preferring}

-- a router and its routes, in order of prefix, one for each
pub record TableValue : Type 0 where
  pub router : RouterId
  pub routes : List RouteValue

-- the routes from what the areas of a router give: to each prefix the intra-area route, else the inter-area route, else the
-- external route
module _ (db : Lists) (router : RouterId) (results : List AreaResultValue) where
  abbrev pub inter_result : InterValue
  inter_result = inter_of db router results (intra_of results)

  abbrev pub inside : List RouteValue
  inside = preferring (intra_of results) inter_result.routes

  abbrev pub routes_from : List RouteValue
  routes_from = preferring inside (externals_of db router inside inter_result.routers)

-- the table of a router that is attached to these areas, and none where there are none
abbrev pub table_by : Lists → RouterId → List AreaHead → Option TableValue
table_by db router [] = None
table_by db router (area ∷ areas) = Some (record { router = router; routes = routes_from db router (results_in db router (area ∷ areas)) })

-- the table of a router; a router that is attached to no area has none
unfoldable pub table_in : Lists → RouterId → Option TableValue
table_in db router = table_by db router (attached_areas db router)

-- when each fault comes, for the table if there is one
abbrev pub FaultMeans : Option TableValue → TableFault → Type 0
FaultMeans None fault = fault ≡ NoRouter
FaultMeans (Some table) fault = fault ≡ OutOfMemory
