-- The routes of the table of a router, if it has one.
use Rattle.std.proofs.Common.{◌≡◌, List, [], ◌∷◌, Option, None, Some, refl, sym, ap}
use Rattle.std.specs.Option.{option_map_or}
use Rattle.lsa_codec.specs.declared.address.RouterId.{RouterId}
use Rattle.lsdb.specs.Lists.{AreaHead, Lists}
use Rattle.area_graph.proofs.MemberLemmas.{Some-same}
use Rattle.area_routes.specs.Attached.{attached_areas}
use Rattle.routing_table.specs.declared.table.TableFault.TheVariants.{NoRouter}
use Rattle.routing_table.specs.Tables.{FaultMeans, TableValue, table_by, table_in}
use Rattle.forwarding.specs.Matches.{routes_in}

module _ (db : Lists) (router : RouterId) where
  pub router_of_table : (table : TableValue) → table_in db router ≡ Some table → table.router ≡ router
  unfolding table_in
  router_of_table table is = by (attached_areas db router) is
    where
      by : (areas : List AreaHead) → table_by db router areas ≡ Some table → table.router ≡ router
      by [] h = absurd (cc)
      by (area ∷ areas) h = ap (λ (t : TableValue). t.router) (sym (Some-same h))

  pub routes_of_table : (table : TableValue) → table_in db router ≡ Some table → table.routes ≡ routes_in db router
  routes_of_table table is = sym (ap (λ (o : Option TableValue). option_map_or (λ t. t.routes) o []) is)

  no_table : (o : Option TableValue) → FaultMeans o NoRouter → o ≡ None
  no_table None means = refl
  no_table (Some table) means = absurd (cc)

  -- a router without a table has no routes
  pub routes_of_none : FaultMeans (table_in db router) NoRouter → [] ≡ routes_in db router
  routes_of_none means = sym (ap (λ (o : Option TableValue). option_map_or (λ t. t.routes) o []) (no_table (table_in db router) means))
