-- What a router has of routes inside the AS and of router entries (RFC 2328, 11).
use Rattle.std.specs.Prelude.{List}
use Rattle.lsa_codec.specs.declared.address.RouterId.{RouterId}
use Rattle.lsdb.specs.Lists.{Lists}
use Rattle.area_routes.specs.Values.{AreaResultValue, EntryValue}
use Rattle.best_ways.specs.Values.{RouteValue}
use Rattle.routing_table.specs.Tables.{inside, inter_result}
use Rattle.summary_metrics.specs.Refreshed.{entries_inside, routes_inside}

-- the intra-area and inter-area routes of its table, and its router entries
pub record WaysValue : Type 0 where
  pub router : RouterId
  pub routes : List RouteValue
  pub entries : List EntryValue

abbrev pub ways_of : Lists → RouterId → WaysValue
ways_of db router = record { router = router; routes = routes_inside db router; entries = entries_inside db router }

-- the same from what its areas give
abbrev pub ways_from : Lists → RouterId → List AreaResultValue → WaysValue
ways_from db router results = record { router = router; routes = inside db router results; entries = (inter_result db router results).routers }
