-- AS-external-LSAs of linked routers that do not call themselves AS boundary routers (RFC 2328, 16.4 and A.4.2).
use Rattle.std.specs.Prelude.{Bool, false, ◌==◌, ◌&&◌, not, List, filter}
use Rattle.std.specs.List.{list_any}
use Rattle.std.specs.Option.{option_map_or}
use Rattle.lsa_codec.specs.declared.address.AreaId.{AreaId}
use Rattle.lsa_codec.specs.declared.address.RouterId.{RouterId}
use Rattle.lsa_codec.specs.Fields.{advertising_router_of, kind_of}
use Rattle.lsa_codec.specs.LsTypes.{external_lsa}
use Rattle.lsa_codec.specs.Views.{ls_infinity, metric_of}
use Rattle.lsdb.specs.Lists.{Lists}
use Rattle.area_graph.specs.Area.{is_live}
use Rattle.area_routes.specs.Entries.{bit_e, flags_of, has_bit}
use Rattle.interfaces.specs.Routers.{router_lsa_of}
use Rattle.link_report.specs.Areas.{area_ids}
use Rattle.audit_places.specs.Places.{PlaceValue}
use Rattle.audit_routers.specs.Linked.{has_router, linked_routers}
use Rattle.audit_lsas.specs.Found.{LsaTest, lsa_places}

-- the live router-LSA of a router in an area has bit E
abbrev pub is_boundary_in : Lists → RouterId → AreaId → Bool
is_boundary_in db router area = option_map_or (λ lsa. has_bit bit_e (flags_of lsa)) (router_lsa_of db area router) false

-- in one of some areas it has
abbrev pub is_boundary : Lists → List AreaId → RouterId → Bool
is_boundary db areas router = list_any (is_boundary_in db router) areas

-- those of some routers that have it in none of some areas
abbrev pub inner_among : Lists → List AreaId → List RouterId → List RouterId
inner_among db areas routers = filter (λ router. not (is_boundary db areas router)) routers

-- the linked routers without bit E
abbrev pub inner_routers : Lists → List RouterId
inner_routers db = inner_among db (area_ids db) (linked_routers db)

-- a live AS-external-LSA of one of some routers, with another metric than LSInfinity
abbrev pub is_external_of : List RouterId → LsaTest
is_external_of routers scope lsa =
    is_live lsa
    && ((kind_of lsa == external_lsa) && (not (metric_of lsa == ls_infinity) && has_router routers (record { 0 = advertising_router_of lsa })))

abbrev pub external_without_bit_e_places : Lists → List PlaceValue
external_without_bit_e_places db = lsa_places (is_external_of (inner_routers db)) db
