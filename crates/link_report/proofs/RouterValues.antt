-- What is said of a router, part by part.
use Rattle.std.proofs.Common.{◌≡◌, ◌∙◌, ℕ, Bool, List, ap}
use Rattle.std.specs.Prelude.{count_by, filter}
use Rattle.std.specs.List.{filter_map, flat_map}
use Rattle.lsa_codec.specs.declared.address.AreaId.{AreaId}
use Rattle.lsa_codec.specs.declared.address.RouterId.{RouterId}
use Rattle.lsa_codec.specs.declared.link.Link.{Link}
use Rattle.lsa_codec.specs.Links.{is_point_to_point, is_stub, is_transit, links_of}
use Rattle.lsdb.specs.Lists.{Lists}
use Rattle.area_routes.specs.Attached.{is_attached}
use Rattle.area_routes.specs.Entries.{bit_b, bit_e}
use Rattle.interfaces.specs.Routers.{router_lsa_of}
use Rattle.link_report.specs.Areas.{area_ids}
use Rattle.link_report.specs.Routers.{RouterValue, has_flag, router_links, router_lsas, router_value}

pub router_is : (db : Lists) (router : RouterId) (ids areas : List AreaId) (lsas : List (List ℕ)) (links : List Link) (is_abr is_asbr : Bool)
    (to_routers to_networks to_stubs : ℕ) → ids ≡ area_ids db → areas ≡ filter (λ area. is_attached db area router) ids
    → lsas ≡ filter_map (λ area. router_lsa_of db area router) ids → links ≡ flat_map links_of lsas
    → is_abr ≡ has_flag bit_b lsas → is_asbr ≡ has_flag bit_e lsas → to_routers ≡ count_by (λ link. is_point_to_point link.kind) links
    → to_networks ≡ count_by (λ link. is_transit link.kind) links → to_stubs ≡ count_by (λ link. is_stub link.kind) links
    → let value : RouterValue = record {
      router = router;
      areas = areas;
      is_abr = is_abr;
      is_asbr = is_asbr;
      links = to_routers;
      transit = to_networks;
      stubs = to_stubs;
    } in value ≡ router_value db router
router_is db router ids areas lsas links is_abr is_asbr to_routers to_networks to_stubs all attached live linked abr asbr routers networks stubs =
    let found : lsas ≡ router_lsas db router = live ∙ ap (filter_map (λ area. router_lsa_of db area router)) all in
    let leads : links ≡ router_links db router = linked ∙ ap (flat_map links_of) found in
    let there : areas ≡ filter (λ area. is_attached db area router) (area_ids db) = attached ∙ ap (filter (λ area. is_attached db area router)) all in
    let has_b : is_abr ≡ has_flag bit_b (router_lsas db router) = abr ∙ ap (has_flag bit_b) found in
    let has_e : is_asbr ≡ has_flag bit_e (router_lsas db router) = asbr ∙ ap (has_flag bit_e) found in
    let first : to_routers ≡ count_by (λ link. is_point_to_point link.kind) (router_links db router) = routers ∙ ap (count_by (λ link. is_point_to_point link.kind)) leads in
    let second : to_networks ≡ count_by (λ link. is_transit link.kind) (router_links db router) = networks ∙ ap (count_by (λ link. is_transit link.kind)) leads in
    let third : to_stubs ≡ count_by (λ link. is_stub link.kind) (router_links db router) = stubs ∙ ap (count_by (λ link. is_stub link.kind)) leads in
    λ i. record {
      router = router;
      areas = there i;
      is_abr = has_b i;
      is_asbr = has_e i;
      links = first i;
      transit = second i;
      stubs = third i;
    }
