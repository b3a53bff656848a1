-- The areas that a router is attached to (RFC 2328, 12.4.1).
use Rattle.std.specs.Prelude.{List, ℕ, Bool, false, filter}
use Rattle.std.specs.List.{find}
use Rattle.std.specs.Option.{option_map_or}
use Rattle.lsa_codec.specs.Key.{router_key}
use Rattle.lsa_codec.specs.declared.address.AreaId.{AreaId}
use Rattle.lsa_codec.specs.declared.address.RouterId.{RouterId}
use Rattle.lsdb.specs.declared.section.Section.TheVariants.{Area}
use Rattle.lsdb.specs.Lists.{AreaHead, Lists, areas_of, has_key, lsas_of}
use Rattle.area_graph.specs.Area.{is_live}

-- whether the router's router-LSA is among the LSAs, and not at MaxAge
abbrev pub has_live_router_lsa : RouterId → List (List ℕ) → Bool
has_live_router_lsa router lsas = option_map_or is_live (find (has_key (router_key router)) lsas) false

-- whether the router is attached to the area with this ID
abbrev pub is_attached : Lists → AreaId → RouterId → Bool
is_attached db area router = has_live_router_lsa router (lsas_of (Area area) db)

-- the ID of an area
abbrev pub id_of : AreaHead → AreaId
id_of area = record { 0 = area.id }

-- the areas that the router is attached to, in rising order of their IDs
abbrev pub attached_areas : Lists → RouterId → List AreaHead
attached_areas db router = filter (λ area. is_attached db (id_of area) router) (areas_of db)
