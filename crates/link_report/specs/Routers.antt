-- What is said of each router: its areas, its roles, and how many links it has (RFC 2328, 12.4.1 and A.4.2).
use Rattle.std.specs.Prelude.{ℕ, Bool, List, map, filter, count_by}
use Rattle.std.specs.List.{filter_map, flat_map, list_any}
use Rattle.lsa_codec.specs.declared.address.AreaId.{AreaId}
use Rattle.lsa_codec.specs.declared.address.RouterId.{RouterId}
use Rattle.lsa_codec.specs.declared.link.Link.{Link}
use Rattle.lsa_codec.specs.Links.{is_point_to_point, is_stub, is_transit, links_of}
use Rattle.lsdb.specs.Lists.{Lists}
use Rattle.area_routes.specs.Attached.{is_attached}
use Rattle.area_routes.specs.Entries.{bit_b, bit_e, flags_of, has_bit}
use Rattle.interfaces.specs.Routers.{router_lsa_of}
use Rattle.routing_table.specs.Routers.{attached_routers}
use Rattle.link_report.specs.Areas.{area_ids}

-- a router, the areas that it is attached to, whether it is an area border router and an AS boundary router, and how many links
-- it has of types 1, 2 and 3
pub record RouterValue : Type 0 where
  pub router : RouterId
  pub areas : List AreaId
  pub is_abr : Bool
  pub is_asbr : Bool
  pub links : ℕ
  pub transit : ℕ
  pub stubs : ℕ

-- one of some router-LSAs has a bit in its flags
abbrev pub has_flag : ℕ → List (List ℕ) → Bool
has_flag bit lsas = list_any (λ lsa. has_bit bit (flags_of lsa)) lsas

module _ (db : Lists) (router : RouterId) where
  -- the live router-LSAs of the router, by area
  abbrev pub router_lsas : List (List ℕ)
  router_lsas = filter_map (λ area. router_lsa_of db area router) (area_ids db)

  -- the links in these LSAs
  abbrev pub router_links : List Link
  router_links = flat_map links_of router_lsas

  abbrev pub router_value : RouterValue
  router_value = record {
    router = router;
    areas = filter (λ area. is_attached db area router) (area_ids db);
    is_abr = has_flag bit_b router_lsas;
    is_asbr = has_flag bit_e router_lsas;
    links = count_by (λ link. is_point_to_point link.kind) router_links;
    transit = count_by (λ link. is_transit link.kind) router_links;
    stubs = count_by (λ link. is_stub link.kind) router_links;
  }

-- of each router that is attached to an area
abbrev pub router_values : Lists → List RouterValue
router_values db = map (router_value db) (attached_routers db)
