-- Distances and next hops in tables, over all paths of the areas.
use Rattle.std.proofs.Common.{◌≡◌, List, [], ◌∷◌, Some, refl, sym, ap}
use Rattle.lsa_codec.specs.declared.address.AreaId.{AreaId}
use Rattle.lsa_codec.specs.declared.address.RouterId.{RouterId}
use Rattle.lsdb.specs.Lists.{AreaHead, IsDatabase, Lists}
use Rattle.area_graph.specs.Area.{used}
use Rattle.area_graph.proofs.GraphLemmas.{are_of_area}
use Rattle.area_graph.proofs.MemberLemmas.{Some-same}
use Rattle.area_graph.proofs.UsedLemmas.{used_accepted}
use Rattle.area_routes.specs.AreaResults.{area_result, result_of_reached}
use Rattle.area_routes.specs.OverAllPaths.{AreOverAllPaths}
use Rattle.area_routes.specs.Reached.{reached_from}
use Rattle.area_routes.proofs.OverAllPathsLemmas.{reached_over_all_paths}
use Rattle.area_routes.specs.Attached.{attached_areas}
use Rattle.routing_table.specs.AreaLsas.{lsas_in}
use Rattle.routing_table.specs.Tables.{TableValue, result_in, results_in, routes_from, table_by, table_in}

pub routes_of_table : (db : Lists) (router : RouterId) (table : TableValue) → table_in db router ≡ Some table
    → table.routes ≡ routes_from db router (results_in db router (attached_areas db router))
unfolding table_in
routes_of_table db router table is = by_areas (attached_areas db router) is
  where
    by_areas : (areas : List AreaHead) → table_by db router areas ≡ Some table → table.routes ≡ routes_from db router (results_in db router areas)
    by_areas [] none = absurd (cc)
    by_areas (area ∷ areas) same = sym (ap (λ (t : TableValue). t.routes) (Some-same same))

pub result_of_reached_vertices : (db : Lists) (router : RouterId) (area : AreaHead)
    → result_in db router area ≡ result_of_reached (record { 0 = area.id }) router (reached_from router (used (lsas_in db area)))
unfolding area_result
result_of_reached_vertices db router area = refl

pub over_all_paths : (db : Lists) (router : RouterId) (area : AreaHead) → IsDatabase db
    → AreOverAllPaths router (used (lsas_in db area)) (reached_from router (used (lsas_in db area)))
over_all_paths db router area is =
    let id : AreaId = record { 0 = area.id } in
    reached_over_all_paths router (used (lsas_in db area)) (used_accepted (lsas_in db area) (are_of_area id db is).accepted)
