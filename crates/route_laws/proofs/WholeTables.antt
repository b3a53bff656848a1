-- The routes of a table are the best of all ways.
use Rattle.std.proofs.Common.{◌≡◌, List, ap, ◌∙◌}
use Rattle.lsa_codec.specs.declared.address.RouterId.{RouterId}
use Rattle.lsa_codec.specs.Order.{prefix_cmp}
use Rattle.lsa_codec.specs.Prefix.{Net}
use Rattle.lsdb.specs.Lists.{AreaHead, Lists}
use Rattle.best_ways.specs.Best.{ways_of}
use Rattle.best_ways.specs.Candidate.{Candidate}
use Rattle.area_routes.specs.Inter.{inter_of}
use Rattle.area_routes.specs.Intra.{intra_of}
use Rattle.best_ways.specs.InWords.{AreBestWays}
use Rattle.area_routes.specs.Values.{AreaResultValue, EntryValue}
use Rattle.best_ways.specs.Values.{RouteValue, WayValue}
use Rattle.external_routes.specs.External.{externals_of}
use Rattle.routing_table.specs.Preferring.{preferring}
use Rattle.routing_table.specs.Tables.{results_in, routes_from}
use Rattle.route_laws.specs.AllWays.{best_inside, best_within, entries_inside, ways_between, ways_within}
use Rattle.route_laws.specs.BestRoutes.{AreBestRoutes}
use Rattle.route_laws.proofs.One.{routes_are_one}

module _ (only : (cs : List (Candidate Net)) (ways : List (Net × WayValue)) → AreBestWays prefix_cmp cs ways → ways ≡ ways_of prefix_cmp cs)
    (db : Lists) (router : RouterId) (areas : List AreaHead)
    (within : AreBestRoutes (ways_within db router areas) (intra_of (results_in db router areas)))
    (between : (intra : List RouteValue)
    → AreBestRoutes (ways_between db router (results_in db router areas) intra) (inter_of db router (results_in db router areas) intra).routes) where
  abbrev results : List AreaResultValue
  results = results_in db router areas

  -- all routes from those within areas and between them and from the router entries
  abbrev routes_by : List RouteValue → List RouteValue → List EntryValue → List RouteValue
  routes_by intra inter entries = preferring (preferring intra inter) (externals_of db router (preferring intra inter) entries)

  pub routes_are_best : routes_from db router results
      ≡ preferring (best_inside db router areas) (externals_of db router (best_inside db router areas) (entries_inside db router areas))
  routes_are_best =
      ap (λ (intra : List RouteValue). routes_by intra (inter_of db router results intra).routes (inter_of db router results intra).routers)
      (routes_are_one only (ways_within db router areas) (intra_of results) within)
      ∙ ap (λ (inter : List RouteValue). routes_by (best_within db router areas) inter (entries_inside db router areas))
      (routes_are_one only (ways_between db router results (best_within db router areas))
      (inter_of db router results (best_within db router areas)).routes (between (best_within db router areas)))
