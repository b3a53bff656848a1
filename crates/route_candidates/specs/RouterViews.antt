-- What is calculated of a router inside the AS: its routes, and its router entries (RFC 2328, 16.1 and 16.2).
use Rattle.std.specs.Prelude.{List, ◌++◌}
use Rattle.lsa_codec.specs.declared.address.RouterId.{RouterId}
use Rattle.lsdb.specs.Lists.{Lists}
use Rattle.best_ways.specs.Values.{RouteValue}
use Rattle.area_routes.specs.AreaResults.{results_of}
use Rattle.area_routes.specs.Inter.{inter_of}
use Rattle.area_routes.specs.Intra.{intra_of}
use Rattle.area_routes.specs.Values.{EntryValue, InterValue}

-- the intra-area routes and the inter-area routes of a router, and its router entries
pub record InsideValue : Type 0 where
  pub routes : List RouteValue
  pub routers : List EntryValue

abbrev pub inter_in : Lists → RouterId → InterValue
inter_in db router = inter_of db router (results_of db router) (intra_of (results_of db router))

abbrev pub inside_of : Lists → RouterId → InsideValue
inside_of db router = record {
  routes = intra_of (results_of db router) ++ (inter_in db router).routes;
  routers = (inter_in db router).routers;
}

-- a router of a database
pub record RouterViewValue : Type 0 where
  pub db : Lists
  pub router : RouterId
