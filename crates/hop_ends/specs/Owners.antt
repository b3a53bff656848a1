-- The routers that a next hop leads to (RFC 2328, 16.1.1): those at the other ends of the links of an interface, and those
-- with an address on a network that an interface joins. Both are read off the edges of the graphs of areas.
use Rattle.std.specs.Prelude.{◌≡◌, Bool, ◌&&◌, ◌==◌, if◌then◌else◌, List, [], ℕ, Option, None, Some, length, slice_get}
use Rattle.std.specs.List.{filter_map, flat_map, list_any}
use Rattle.lsa_codec.specs.Order.{router_cmp}
use Rattle.lsa_codec.specs.declared.address.Addr.{Addr}
use Rattle.lsa_codec.specs.declared.address.RouterId.{RouterId}
use Rattle.lsdb.specs.Lists.{AreaHead, Lists, areas_of}
use Rattle.area_graph.specs.declared.vertex.Vertex.{Vertex}
use Rattle.area_graph.specs.declared.vertex.Vertex.TheVariants.{Router, Network}
use Rattle.area_graph.specs.Area.{used}
use Rattle.area_graph.specs.AreaEdges.{area_edges}
use Rattle.area_graph.specs.Graphs.{IsGraphOf}
use Rattle.area_graph.specs.Paths.{DirectedEdge}
use Rattle.area_graph.specs.Rising.{rising}
use Rattle.area_graph.specs.Topology.{Topology}
use Rattle.area_graph.specs.Vertex.{is_network, is_same}
use Rattle.next_hops.specs.declared.hop.Hop.{Hop}
use Rattle.next_hops.specs.declared.hop.Hop.TheVariants.{Connected, Link, Attached, Gateway}
use Rattle.routing_table.specs.AreaLsas.{lsas_in}

-- the edges of the graph of an area
abbrev pub edges_in : Lists → AreaHead → List (DirectedEdge Vertex)
edges_in db area = area_edges (used (lsas_in db area))

-- the router of a vertex, if it is one
abbrev pub router_at : Vertex → Option RouterId
router_at (Router router) = Some router
router_at (Network _) = None

-- the edge leads out of the router's interface with this Link Data
abbrev pub leaves : RouterId → Addr → DirectedEdge Vertex → Bool
leaves router interface e = is_same e.from (Router router) && (e.link_data.0 == interface.0)

-- ---- over links

-- the router at the other end of a link of the interface
abbrev pub far_end : RouterId → Addr → DirectedEdge Vertex → Option RouterId
far_end router interface e = if leaves router interface e then router_at e.to else None

abbrev pub far_ends_in : Lists → RouterId → Addr → AreaHead → List RouterId
far_ends_in db router interface area = filter_map (far_end router interface) (edges_in db area)

-- the routers at the other ends of the links of a router's interface, in rising order
abbrev pub far_ends : Lists → RouterId → Addr → List RouterId
far_ends db router interface = rising router_cmp (flat_map (far_ends_in db router interface) (areas_of db))

-- ---- over networks

-- the interface joins its router to this network
abbrev pub joins : List (DirectedEdge Vertex) → RouterId → Addr → Vertex → Bool
joins edges router interface network = list_any (λ e. leaves router interface e && is_same e.to network) edges

-- another router than this one
abbrev pub other_than : RouterId → Option RouterId → Option RouterId
other_than router None = None
other_than router (Some other) = if other.0 == router.0 then None else Some other

-- the other router that an edge leads to, if it comes from a network of the interface and the router has this address there
abbrev pub owner : List (DirectedEdge Vertex) → RouterId → Addr → Addr → DirectedEdge Vertex → Option RouterId
owner edges router interface address e =
    if is_network e.from && ((e.link_data.0 == address.0) && joins edges router interface e.from) then other_than router (router_at e.to) else None

abbrev pub owners_in : Lists → RouterId → Addr → Addr → AreaHead → List RouterId
owners_in db router interface address area = filter_map (owner (edges_in db area) router interface address) (edges_in db area)

-- the other routers with an address on the networks that a router's interface joins, in rising order
abbrev pub owners : Lists → RouterId → Addr → Addr → List RouterId
owners db router interface address = rising router_cmp (flat_map (owners_in db router interface address) (areas_of db))

-- ---- over next hops

-- the routers that a next hop of a router leads to, whatever the route
abbrev pub targets_of : Lists → RouterId → Hop → List RouterId
targets_of db router Connected = []
targets_of db router (Link interface) = far_ends db router interface
targets_of db router (Attached interface) = []
targets_of db router (Gateway interface address) = owners db router interface address

-- ---- graphs

-- a database beside the graphs of its areas
pub record GraphsValue : Type 0 where
  pub db : Lists
  pub graphs : List Topology

-- these are the graphs of all areas, in order of area
pub record AreAreaGraphs (db : Lists) (graphs : List Topology) : Type 0 where
  pub sized : length graphs ≡ length (areas_of db)
  pub each : (i : ℕ) (area : AreaHead) (graph : Topology) → slice_get (areas_of db) i ≡ Some area → slice_get graphs i ≡ Some graph
      → IsGraphOf (lsas_in db area) graph

-- this is the database, with these graphs
pub record AreGraphsOf (db : Lists) (graphs : GraphsValue) : Type 0 where
  pub database : graphs.db ≡ db
  pub areas : AreAreaGraphs db graphs.graphs
