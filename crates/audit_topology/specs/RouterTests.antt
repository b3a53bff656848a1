-- `area-missing`, `abr-without-bit-b` and `unreached-router`: router-LSAs (RFC 2328, 3.3, 12.4.1 and A.4.2).
use Rattle.std.specs.Prelude.{Bool, false, ◌==◌, ◌&&◌, not, nat_lt, if◌then◌else◌, List, [], ◌∷◌, length, None, Some}
use Rattle.std.specs.Option.{option_map_or}
use Rattle.lsa_codec.specs.declared.address.AreaId.{AreaId}
use Rattle.lsa_codec.specs.declared.address.RouterId.{RouterId}
use Rattle.lsa_codec.specs.Key.{router_key}
use Rattle.lsdb.specs.Lists.{Lists}
use Rattle.area_graph.specs.declared.vertex.Vertex.TheVariants.{Router}
use Rattle.area_routes.specs.Entries.{bit_b, flags_of, has_bit}
use Rattle.lsa_names.specs.declared.lsa_name.LsaName.{LsaName}
use Rattle.audit_places.specs.Places.{PlaceValue, at_lsa}
use Rattle.audit_areas.specs.Areas.{AreaValue, edges_in, has_edge, router_lsa_in, routers_in}
use Rattle.audit_areas.specs.Borders.{attached_count, is_border, is_linked}
use Rattle.audit_areas.specs.Findings.{FindsAt, places_by_router}
use Rattle.audit_topology.specs.declared.router_tests.RouterTest.{RouterTest}
use Rattle.audit_topology.specs.declared.router_tests.RouterTest.TheVariants.{AreaMissing, WithoutBitB, Unreached}

-- bit B of the router-LSA of a router in an area: it calls itself a border router
abbrev pub has_bit_b : AreaValue → RouterId → Bool
has_bit_b area router = option_map_or (λ lsa. has_bit bit_b (flags_of lsa)) (router_lsa_in area router) false

-- a linked router that is attached to one area
abbrev pub is_in_one_area : List AreaValue → RouterId → Bool
is_in_one_area areas router = (attached_count areas router == 1) && is_linked areas router

-- such a router calls itself a border router
abbrev pub lacks_areas : List AreaValue → AreaValue → RouterId → Bool
lacks_areas areas area router = has_bit_b area router && is_in_one_area areas router

-- a border router does not call itself one
abbrev pub lacks_bit_b : List AreaValue → AreaValue → RouterId → Bool
lacks_bit_b areas area router = not (has_bit_b area router) && is_border areas router

-- a router has no edge in an area, which has another router
abbrev pub is_unreached : AreaValue → RouterId → Bool
is_unreached area router = nat_lt 1 (length (routers_in area)) && not (has_edge (edges_in area) (Router router))

abbrev pub passes : RouterTest → List AreaValue → AreaValue → RouterId → Bool
passes AreaMissing areas area router = lacks_areas areas area router
passes WithoutBitB areas area router = lacks_bit_b areas area router
passes Unreached areas area router = is_unreached area router

-- the name of the router-LSA of a router in an area
abbrev pub router_lsa_name : AreaId → RouterId → LsaName
router_lsa_name area router = record { area = Some area; key = router_key router; net = None }

-- the router-LSA, where the router passes the test
abbrev pub lsas_that_pass : RouterTest → FindsAt
lsas_that_pass test areas area router =
    if passes test areas area router then at_lsa (router_lsa_name area.area router) ∷ [] else []

-- the live router-LSAs of routers that pass a test, by area and Router ID
abbrev pub places_that_pass : RouterTest → Lists → List PlaceValue
places_that_pass test db = places_by_router (lsas_that_pass test) db

abbrev pub area_missing_places : Lists → List PlaceValue
area_missing_places db = places_that_pass AreaMissing db

abbrev pub abr_without_bit_b_places : Lists → List PlaceValue
abr_without_bit_b_places db = places_that_pass WithoutBitB db

abbrev pub unreached_router_places : Lists → List PlaceValue
unreached_router_places db = places_that_pass Unreached db
