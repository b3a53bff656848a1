-- What LSAs of any age describe: routers and networks of areas, and what routers originated (RFC 2328, 12.1).
use Rattle.std.specs.Prelude.{ℕ, ◌==◌, ◌&&◌, Bool, List, count_by, Option, None, Some, if◌then◌else◌}
use Rattle.std.specs.List.{filter_map, find, flat_map}
use Rattle.std.specs.Option.{is_some, option_map_or}
use Rattle.std.specs.Ordering.{nat_cmp}
use Rattle.area_graph.specs.Rising.{rising}
use Rattle.lsa_codec.specs.Fields.{advertising_router_of, kind_of, link_state_id_of}
use Rattle.lsa_codec.specs.Links.{link_count}
use Rattle.lsa_codec.specs.declared.address.AreaId.{AreaId}
use Rattle.lsa_codec.specs.declared.address.RouterId.{RouterId}
use Rattle.lsdb.specs.Lists.{Lists, lsas_of}
use Rattle.lsdb.specs.declared.section.Section.TheVariants.{Area}
use Rattle.link_report.specs.AnyAge.{router_lsa_of_any_age}
use Rattle.link_report.specs.Areas.{area_ids}

-- the Link State ID of an LSA of a type: of router-LSAs the router, of network-LSAs the address of the Designated Router
abbrev pub id_if : ℕ → List ℕ → Option ℕ
id_if kind lsa = if kind_of lsa == kind then Some (link_state_id_of lsa) else None

abbrev pub ids_in : Lists → ℕ → AreaId → List ℕ
ids_in db kind area = filter_map (id_if kind) (lsas_of (Area area) db)

-- those of several areas, in rising order, each once
abbrev pub described : Lists → ℕ → List AreaId → List ℕ
described db kind areas = rising nat_cmp (flat_map (ids_in db kind) areas)

-- an area has a router-LSA of the router
abbrev pub is_described : Lists → RouterId → AreaId → Bool
is_described db router area = is_some (router_lsa_of_any_age db area router)

-- the first area that has one
abbrev pub area_with : Lists → RouterId → Option AreaId
area_with db router = find (is_described db router) (area_ids db)

-- the number of links of a router in an area
abbrev pub link_total : Lists → AreaId → RouterId → ℕ
link_total db area router = option_map_or link_count (router_lsa_of_any_age db area router) 0

-- a router originated an LSA of a type
abbrev pub is_originated : ℕ → RouterId → List ℕ → Bool
is_originated kind router lsa = (kind_of lsa == kind) && (advertising_router_of lsa == router.0)

abbrev pub count_originated : ℕ → RouterId → List (List ℕ) → ℕ
count_originated kind router lsas = count_by (is_originated kind router) lsas
