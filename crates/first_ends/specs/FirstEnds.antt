-- The neighbors to which a route leads over one interface: those with whose link a path of least cost to a target of the route begins
-- (RFC 2328, 16.1.1).
use Rattle.std.specs.Prelude.{◌==◌, ◌&&◌, Bool, if◌then◌else◌, List, Option, None, Some}
use Rattle.std.specs.List.{filter_map, flat_map}
use Rattle.lsa_codec.specs.Order.{router_cmp}
use Rattle.lsa_codec.specs.Prefix.{Net}
use Rattle.lsa_codec.specs.declared.address.Addr.{Addr}
use Rattle.lsa_codec.specs.declared.address.AreaId.{AreaId}
use Rattle.lsa_codec.specs.declared.address.RouterId.{RouterId}
use Rattle.area_graph.specs.declared.vertex.Vertex.{Vertex}
use Rattle.area_graph.specs.declared.vertex.Vertex.TheVariants.{Router, Network}
use Rattle.area_graph.specs.Area.{used}
use Rattle.area_graph.specs.AreaEdges.{area_edges}
use Rattle.area_graph.specs.Paths.{DirectedEdge}
use Rattle.area_graph.specs.Rising.{rising}
use Rattle.area_graph.specs.Vertex.{is_same}
use Rattle.least_paths.specs.LeastPaths.{is_on_way}
use Rattle.route_candidates.specs.declared.target.Target.{Target}
use Rattle.route_candidates.specs.Targets.{route_targets}
use Rattle.area_candidates.specs.Views.{AreaViewValue, area_views, lsas_in}
use Rattle.route_candidates.specs.RouterViews.{RouterViewValue}

-- the vertices of an area that are targets
abbrev pub vertex_in : AreaId → Target → Option Vertex
vertex_in area target = if target.area.0 == area.0 then Some target.vertex else None

abbrev pub vertices_in : AreaId → List Target → List Vertex
vertices_in area targets = filter_map (vertex_in area) targets

-- the router of a vertex, if it is one
abbrev pub router_of : Vertex → Option RouterId
router_of (Router router) = Some router
router_of (Network network) = None

-- whether an edge starts at a router with this Link Data
abbrev pub starts_over : RouterId → Addr → DirectedEdge Vertex → Bool
starts_over router interface e = is_same e.from (Router router) && (e.link_data.0 == interface.0)

-- the neighbor at the other end of an edge over the interface, if a path of least cost begins with it
abbrev pub first_end : List (DirectedEdge Vertex) → RouterId → Addr → List Vertex → DirectedEdge Vertex → Option RouterId
first_end edges router interface targets e =
    if starts_over router interface e && is_on_way edges (Router router) targets e then router_of e.to else None

-- those of an area
abbrev pub first_ends_in : Addr → List Target → AreaViewValue → List RouterId
first_ends_in interface targets view =
    let edges = area_edges (used (lsas_in view)) in
    filter_map (first_end edges view.router interface (vertices_in view.area targets)) edges

-- those of all areas of the router, in rising order
abbrev pub first_ends : RouterViewValue → List Target → Addr → List RouterId
first_ends view targets interface = rising router_cmp (flat_map (first_ends_in interface targets) (area_views view.db view.router))

-- the neighbors to which the router's route to a prefix leads over an interface
abbrev pub route_ends : RouterViewValue → Net → Addr → List RouterId
route_ends view net interface = first_ends view (route_targets view net) interface
