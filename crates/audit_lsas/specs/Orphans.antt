-- LSAs whose originators are not described (RFC 2328, 12.4): nobody uses them.
use Rattle.std.specs.Prelude.{ℕ, Bool, ◌==◌, ◌&&◌, not, nat_le, if◌then◌else◌, List, ◌++◌, Option, None, Some}
use Rattle.std.specs.List.{filter_map, flat_map}
use Rattle.lsa_codec.specs.declared.address.AreaId.{AreaId}
use Rattle.lsa_codec.specs.declared.address.RouterId.{RouterId}
use Rattle.lsa_codec.specs.Fields.{advertising_router_of, kind_of, link_state_id_of}
use Rattle.lsa_codec.specs.LsTypes.{asbr_summary_lsa, external_lsa, network_lsa}
use Rattle.lsa_codec.specs.Order.{router_cmp}
use Rattle.lsa_codec.specs.Views.{ls_infinity, metric_of}
use Rattle.lsdb.specs.declared.section.Section.TheVariants.{Area}
use Rattle.lsdb.specs.Lists.{Lists, lsas_of}
use Rattle.area_graph.specs.Area.{is_live}
use Rattle.area_graph.specs.Rising.{rising}
use Rattle.area_routes.specs.Attached.{is_attached}
use Rattle.link_report.specs.Areas.{area_ids}
use Rattle.routing_table.specs.Routers.{attached_routers}
use Rattle.audit_places.specs.Places.{PlaceValue}
use Rattle.audit_routers.specs.Linked.{has_router}
use Rattle.audit_lsas.specs.declared.scope.AreaScope.{AreaScope}
use Rattle.audit_lsas.specs.Found.{LsaTest, lsa_places}

abbrev pub originator_of : List ℕ → RouterId
originator_of lsa = record { 0 = advertising_router_of lsa }

-- ---- AS boundary routers of other areas

-- the AS boundary router that a live summary-LSA of type 4 describes, with another metric than LSInfinity
abbrev pub described_boundary : List ℕ → Option RouterId
described_boundary lsa =
    if is_live lsa && ((kind_of lsa == asbr_summary_lsa) && not (metric_of lsa == ls_infinity))
    then Some (record { 0 = link_state_id_of lsa }) else None

abbrev pub boundaries_in : Lists → AreaId → List RouterId
boundaries_in db area = filter_map described_boundary (lsas_of (Area area) db)

-- the routers with a live router-LSA, and the AS boundary routers that such summary-LSAs describe
abbrev pub described_routers : Lists → List RouterId
described_routers db = rising router_cmp (attached_routers db ++ flat_map (boundaries_in db) (area_ids db))

-- ---- orphans

-- a live LSA of types 2 to 4 in an area without a live router-LSA of its originator
abbrev pub is_orphan_in : Lists → AreaScope → List ℕ → Bool
is_orphan_in db area lsa =
    is_live lsa
    && (nat_le network_lsa (kind_of lsa) && (nat_le (kind_of lsa) asbr_summary_lsa && not (is_attached db area.id (originator_of lsa))))

-- a live AS-external-LSA whose originator is not described
abbrev pub is_orphan_of_as : List RouterId → List ℕ → Bool
is_orphan_of_as described lsa = is_live lsa && ((kind_of lsa == external_lsa) && not (has_router described (originator_of lsa)))

abbrev pub is_orphan : Lists → List RouterId → LsaTest
is_orphan db described None lsa = is_orphan_of_as described lsa
is_orphan db described (Some area) lsa = is_orphan_in db area lsa

-- the test beside a database and the routers that are described in it
pub record OrphansValue : Type 0 where
  pub db : Lists
  pub described : List RouterId

abbrev pub orphan_lsa_places : Lists → List PlaceValue
orphan_lsa_places db = lsa_places (is_orphan db (described_routers db)) db
