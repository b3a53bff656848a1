-- What two databases whose areas have the same router-LSAs and network-LSAs have in common.
use Rattle.std.proofs.Common.{◌≡◌, ℕ, false, List, map, filter, ap}
use Rattle.std.specs.Prelude.{◌&&◌, not}
use Rattle.std.specs.List.{list_any}
use Rattle.std.specs.Option.{option_map_or}
use Rattle.lsa_codec.specs.declared.address.AreaId.{AreaId}
use Rattle.lsa_codec.specs.declared.address.RouterId.{RouterId}
use Rattle.lsa_codec.specs.Views.{net_of_summary}
use Rattle.lsdb.specs.declared.section.Section.TheVariants.{Area}
use Rattle.lsdb.specs.Lists.{AreaHead, Lists, areas_of, lsas_of}
use Rattle.area_graph.specs.Area.{is_live}
use Rattle.area_routes.specs.AreaResults.{area_result, result_in, result_of_reached, results_of}
use Rattle.area_routes.specs.Attached.{attached_areas, is_attached}
use Rattle.area_routes.specs.Inter.{is_summary, originator_of}
use Rattle.area_routes.specs.Reached.{reached_from}
use Rattle.area_routes.proofs.SameGraphLemmas.{is_graph_lsa, same_live, same_used}
use Rattle.external_routes.specs.Summaries.{is_covered, is_default, is_head_of_area, is_stub_area}
use Rattle.summary_metrics.specs.Refreshed.{id_of}

-- the areas are the same, and in each the router-LSAs and network-LSAs
pub record HaveSameGraphs (db new : Lists) : Type 0 where
  pub areas : areas_of new ≡ areas_of db
  pub lsas : (area : AreaId) → filter is_graph_lsa (lsas_of (Area area) new) ≡ filter is_graph_lsa (lsas_of (Area area) db)

module _ (db new : Lists) (same : HaveSameGraphs db new) where
  attached_alike : (area : AreaId) (router : RouterId) → is_attached new area router ≡ is_attached db area router
  attached_alike area router = same_live (lsas_of (Area area) new) (lsas_of (Area area) db) (same.lsas area) router

  pub areas_alike : (router : RouterId) → attached_areas new router ≡ attached_areas db router
  areas_alike router = λ i. filter (λ head. attached_alike (id_of head) router i) (same.areas i)

  result_alike : (router : RouterId) (head : AreaHead) → result_in new router head ≡ result_in db router head
  unfolding area_result
  result_alike router head =
      ap (λ lsas. result_of_reached (id_of head) router (reached_from router lsas))
      (same_used (lsas_of (Area (id_of head)) new) (lsas_of (Area (id_of head)) db) (same.lsas (id_of head)))

  pub results_alike : (router : RouterId) → results_of new router ≡ results_of db router
  results_alike router = λ i. map (λ head. result_alike router head i) (areas_alike router i)

  pub stub_alike : (area : AreaId) → is_stub_area new area ≡ is_stub_area db area
  stub_alike area = ap (λ (heads : List AreaHead). list_any (λ head. head.is_stub && is_head_of_area area head) heads) same.areas

  pub covered_alike : (area : AreaId) (lsa : List ℕ) → is_covered new area lsa ≡ is_covered db area lsa
  covered_alike area lsa = λ i.
      (is_summary lsa && (is_live lsa && not (option_map_or is_default (net_of_summary lsa) false && stub_alike area i)))
      && (attached_alike area (originator_of lsa) i && list_any (λ head. not (is_head_of_area area head)) (areas_alike (originator_of lsa) i))
