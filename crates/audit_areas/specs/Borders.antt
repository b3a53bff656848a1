-- Routers with edges, and those among them with several areas (RFC 2328, 3.3).
use Rattle.std.specs.Prelude.{ℕ, Bool, ◌&&◌, nat_lt, List, count_by}
use Rattle.std.specs.List.{list_any}
use Rattle.lsa_codec.specs.declared.address.RouterId.{RouterId}
use Rattle.area_graph.specs.declared.vertex.Vertex.TheVariants.{Router}
use Rattle.area_routes.specs.Attached.{is_attached}
use Rattle.audit_areas.specs.Areas.{AreaValue, edges_in, has_edge}

-- a router has an edge in an area
abbrev pub has_edge_in : RouterId → AreaValue → Bool
has_edge_in router area = has_edge (edges_in area) (Router router)

-- a linked router has an edge in one of the areas; one without is down or cut off
abbrev pub is_linked : List AreaValue → RouterId → Bool
is_linked areas router = list_any (has_edge_in router) areas

-- how many of the areas a router is attached to
abbrev pub attached_count : List AreaValue → RouterId → ℕ
attached_count areas router = count_by (λ area. is_attached area.db area.area router) areas

-- a border router is linked and attached to several areas
abbrev pub is_border : List AreaValue → RouterId → Bool
is_border areas router = nat_lt 1 (attached_count areas router) && is_linked areas router
