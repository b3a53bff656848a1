-- What the edges of a graph's rows give.
use Rattle.std.specs.Prelude.{◌↔◌, Bool, false, ◌&&◌, ◌==◌, if◌then◌else◌, List, [], Option, None, Contains, slice_get}
use Rattle.std.specs.List.{filter_map}
use Rattle.std.specs.Option.{option_and_then, option_map_or}
use Rattle.lsa_codec.specs.declared.address.Addr.{Addr}
use Rattle.lsa_codec.specs.declared.address.RouterId.{RouterId}
use Rattle.area_graph.specs.declared.edge.Edge.{Edge}
use Rattle.area_graph.specs.declared.vertex.Vertex.{Vertex}
use Rattle.area_graph.specs.Paths.{DirectedEdge}
use Rattle.area_graph.specs.Topology.{Topology, IsEdge, row_at}
use Rattle.area_graph.specs.Vertex.{is_network}
use Rattle.hop_ends.specs.Owners.{other_than, router_at}

-- a list has exactly the edges of a graph
abbrev pub HasEdges : Topology → List (DirectedEdge Vertex) → Type 0
HasEdges t edges = (e : DirectedEdge Vertex) → IsEdge t e ↔ Contains edges e

-- the router that an edge leads to
abbrev pub target_of : Topology → Edge → Option RouterId
target_of t e = option_and_then router_at (slice_get t.vertices e.to)

-- that router, if the edge carries this Link Data
abbrev pub end_over : Topology → Addr → Edge → Option RouterId
end_over t interface e = if e.link_data.0 == interface.0 then target_of t e else None

-- another router, if the edge carries this Link Data
abbrev pub owner_over : Topology → RouterId → Addr → Edge → Option RouterId
owner_over t router address e = if e.link_data.0 == address.0 then other_than router (target_of t e) else None

-- the edge carries this Link Data, and leads to a network
abbrev pub joins_over : Topology → Addr → Edge → Bool
joins_over t interface e = (e.link_data.0 == interface.0) && option_map_or is_network (slice_get t.vertices e.to) false

-- the other routers with an address on the network that an edge of the interface leads to
abbrev pub owners_over : Topology → RouterId → Addr → Addr → Edge → List RouterId
owners_over t router interface address e = if joins_over t interface e then filter_map (owner_over t router address) (row_at t e.to) else []
