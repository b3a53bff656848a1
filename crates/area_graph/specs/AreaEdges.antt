-- The edges of an area as one list (RFC 2328, 16.1). The LSAs here are those in use.
use Rattle.std.specs.Prelude.{ℕ, Bool, ◌&&◌, if◌then◌else◌, List, [], ◌++◌, map, filter, filter_map, flat_map, Option, None, Some}
use Rattle.std.specs.List.{list_any}
use Rattle.std.specs.Option.{option_map}
use Rattle.lsa_codec.specs.declared.address.Addr.{Addr}
use Rattle.lsa_codec.specs.declared.link.Link.{Link}
use Rattle.lsa_codec.specs.declared.link.LinkKind.{LinkKind}
use Rattle.lsa_codec.specs.declared.link.LinkKind.TheVariants.{PointToPoint, Transit, Stub, Virtual, Other}
use Rattle.lsa_codec.specs.Links.{links_of}
use Rattle.lsa_codec.specs.Views.{attached_of}
use Rattle.area_graph.specs.declared.vertex.Vertex.{Vertex}
use Rattle.area_graph.specs.declared.vertex.Vertex.TheVariants.{Router, Network}
use Rattle.area_graph.specs.Vertex.{is_same, is_network}
use Rattle.area_graph.specs.Paths.{DirectedEdge}
use Rattle.area_graph.specs.Area.{is_router_lsa, is_network_lsa, vertex_of}

-- the vertex that a link leads to, by its kind and Link ID: a router over a point-to-point link, or a transit network
abbrev pub target_by : LinkKind → Addr → Option Vertex
target_by PointToPoint id = Some (Router (record { 0 = id.0 }))
target_by Transit id = Some (Network id)
target_by Stub id = None
target_by Virtual id = None
target_by (Other code) id = None

abbrev pub target_of : Link → Option Vertex
target_of link = target_by link.kind link.id

-- the vertices that an LSA names: those that a router's links lead to, or the routers attached to a network
abbrev pub named_by : List ℕ → List Vertex
named_by lsa =
    if is_router_lsa lsa then filter_map target_of (links_of lsa) else
    if is_network_lsa lsa then map (λ router. Router router) (attached_of lsa) else []

-- whether this is the LSA of one vertex, and names the other
abbrev pub names : Vertex → Vertex → List ℕ → Bool
names v w lsa = is_same (vertex_of lsa) v && list_any (λ named. is_same named w) (named_by lsa)

-- the edge from a vertex over a link: its metric is the cost
abbrev pub edge_over : Vertex → Link → Option (DirectedEdge Vertex)
edge_over v link = option_map (λ w. record { from = v; to = w; cost = link.metric; link_data = link.link_data }) (target_of link)

-- the links of a router-LSA
abbrev pub router_links : List ℕ → List Link
router_links lsa = if is_router_lsa lsa then links_of lsa else []

-- the edges over the links of an LSA
abbrev pub edges_over : List ℕ → List (DirectedEdge Vertex)
edges_over lsa = filter_map (edge_over (vertex_of lsa)) (router_links lsa)

-- whether the other end links back
abbrev pub is_returned : List (List ℕ) → DirectedEdge Vertex → Bool
is_returned lsas e = list_any (names e.to e.from) lsas

-- the edges out of routers: over each link whose other end links back
abbrev pub router_edges : List (List ℕ) → List (DirectedEdge Vertex)
router_edges lsas = filter (is_returned lsas) (flat_map edges_over lsas)

-- the edge back from a network: it costs nothing, and carries the router's Link Data
abbrev pub back : DirectedEdge Vertex → DirectedEdge Vertex
back e = record { from = e.to; to = e.from; cost = 0; link_data = e.link_data }

-- the edges out of routers, and the way back of each that leads to a network
unfoldable pub area_edges : List (List ℕ) → List (DirectedEdge Vertex)
area_edges lsas = router_edges lsas ++ map back (filter (λ e. is_network e.to) (router_edges lsas))
