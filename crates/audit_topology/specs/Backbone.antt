-- `abr-without-backbone`: border routers without an edge in the backbone (RFC 2328, 3.1; RFC 3509).
use Rattle.std.specs.Prelude.{Bool, ◌==◌, ◌&&◌, not, List, map, filter}
use Rattle.std.specs.List.{list_any}
use Rattle.lsa_codec.specs.declared.address.RouterId.{RouterId}
use Rattle.lsdb.specs.Lists.{Lists}
use Rattle.routing_table.specs.Routers.{attached_routers}
use Rattle.audit_places.specs.Places.{PlaceValue, at_router}
use Rattle.audit_areas.specs.Areas.{AreaValue, audited_areas}
use Rattle.audit_areas.specs.Borders.{has_edge_in, is_border}

-- an area is the backbone, and a router has an edge there
abbrev pub has_backbone_edge_in : RouterId → AreaValue → Bool
has_backbone_edge_in router area = (area.area.0 == 0) && has_edge_in router area

abbrev pub has_backbone_edge : List AreaValue → RouterId → Bool
has_backbone_edge areas router = list_any (has_backbone_edge_in router) areas

-- a border router without an edge in the backbone
unfoldable pub is_off_backbone : List AreaValue → RouterId → Bool
is_off_backbone areas router = is_border areas router && not (has_backbone_edge areas router)

-- by Router ID
abbrev pub abr_without_backbone_places : Lists → List PlaceValue
abr_without_backbone_places db = map (λ router. at_router router) (filter (is_off_backbone (audited_areas db)) (attached_routers db))
