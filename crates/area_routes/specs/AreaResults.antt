-- What areas give to a router, as a function of the LSAs of the areas and the router (RFC 2328, 16.1).
use Rattle.std.specs.Prelude.{◌≡◌, ℕ, List, ◌++◌, map}
use Rattle.lsa_codec.specs.declared.address.AreaId.{AreaId}
use Rattle.lsa_codec.specs.declared.address.RouterId.{RouterId}
use Rattle.lsdb.specs.declared.section.Section.TheVariants.{Area}
use Rattle.lsdb.specs.Lists.{AreaHead, Lists, lsas_of}
use Rattle.area_graph.specs.declared.vertex.Vertex.TheVariants.{Router}
use Rattle.area_graph.specs.Area.{used}
use Rattle.area_graph.specs.Topology.{Topology}
use Rattle.area_graph.specs.Graphs.{IsGraphOf}
use Rattle.spf.specs.Distances.{Distances, IsTreeOf}
use Rattle.next_hops.specs.declared.hop.Hop.{Hop}
use Rattle.next_hops.specs.FirstHops.{table_of}
use Rattle.area_routes.specs.Attached.{attached_areas, id_of}
use Rattle.area_routes.specs.Values.{AreaResultValue}
use Rattle.area_routes.specs.Reached.{ReachedValue, reached_from}
use Rattle.area_routes.specs.Networks.{network_offers}
use Rattle.area_routes.specs.Offers.{best_offers}
use Rattle.area_routes.specs.Stubs.{stub_offers}
use Rattle.area_routes.specs.Entries.{area_entries}

-- the result by the vertices that are reached
abbrev pub result_of_reached : AreaId → RouterId → List ReachedValue → AreaResultValue
result_of_reached area root rs = record { area = area; offers = best_offers (network_offers rs ++ stub_offers root rs); entries = area_entries area root rs }

-- the result of an area with these LSAs for a router
unfoldable pub area_result : AreaId → List (List ℕ) → RouterId → AreaResultValue
area_result area lsas root = result_of_reached area root (reached_from root (used lsas))

-- what an area of a database gives to a router
abbrev pub result_in : Lists → RouterId → AreaHead → AreaResultValue
result_in db router area = area_result (id_of area) (lsas_of (Area (id_of area)) db) router

-- what each of some areas gives
abbrev pub results_in : Lists → RouterId → List AreaHead → List AreaResultValue
results_in db router areas = map (result_in db router) areas

-- what the areas give to which the router is attached, in rising order of their IDs
abbrev pub results_of : Lists → RouterId → List AreaResultValue
results_of db router = results_in db router (attached_areas db router)

-- graph, tree and hops are those of these LSAs and this router
pub record AreOf (lsas : List (List ℕ)) (root : RouterId) (graph : Topology) (tree : Distances) (hops : List (List Hop)) : Type 0 where
  pub of_area : IsGraphOf lsas graph
  pub of_graph : IsTreeOf graph (Router root) tree
  pub of_tree : hops ≡ table_of graph (Router root)
