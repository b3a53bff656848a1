-- The vertices that LSAs name, by their numbers (RFC 2328, 16.1), whether or not those name the first vertex in
-- return.
use Rattle.std.specs.Prelude.{ℕ, Bool, ◌==◌, if◌then◌else◌, List, [], filter_map, position, slice_index_or, Option, None, Some}
use Rattle.std.specs.List.{list_any}
use Rattle.std.specs.Option.{option_map}
use Rattle.lsa_codec.specs.declared.address.Addr.{Addr}
use Rattle.lsa_codec.specs.declared.address.RouterId.{RouterId}
use Rattle.lsa_codec.specs.declared.link.Link.{Link}
use Rattle.lsa_codec.specs.Links.{links_of}
use Rattle.lsa_codec.specs.Views.{attached_of}
use Rattle.area_graph.specs.declared.vertex.Vertex.{Vertex}
use Rattle.area_graph.specs.declared.vertex.Vertex.TheVariants.{Router}
use Rattle.area_graph.specs.declared.edge.Edge.{Edge}
use Rattle.area_graph.specs.Vertex.{is_same}
use Rattle.area_graph.specs.Area.{is_router_lsa, is_network_lsa}
use Rattle.area_graph.specs.AreaEdges.{target_of}

-- an edge to a vertex, if it has a number
abbrev pub edge_to : List Vertex → Vertex → ℕ → Addr → Option Edge
edge_to vertices w cost link_data = option_map (λ to. record { to = to; cost = cost; link_data = link_data }) (position (is_same w) vertices)

abbrev pub edge_to_some : List Vertex → Option Vertex → ℕ → Addr → Option Edge
edge_to_some vertices None cost link_data = None
edge_to_some vertices (Some w) cost link_data = edge_to vertices w cost link_data

-- the edge over a link of a router
abbrev pub linked : List Vertex → Link → Option Edge
linked vertices link = edge_to_some vertices (target_of link) link.metric link.link_data

-- an edge from a network to a router that it lists; only the router's LSA has the Link Data of the link
abbrev pub listed : List Vertex → RouterId → Option Edge
listed vertices router = edge_to vertices (Router router) 0 (record { 0 = 0 })

-- an edge to each vertex that an LSA names
abbrev pub naming : List Vertex → List ℕ → List Edge
naming vertices lsa =
    if is_router_lsa lsa then filter_map (linked vertices) (links_of lsa) else
    if is_network_lsa lsa then filter_map (listed vertices) (attached_of lsa) else []

-- the row of a vertex
abbrev pub row_in : List (List Edge) → ℕ → List Edge
row_in rows i = slice_index_or rows i []

-- whether the row of one vertex names another
abbrev pub names_in : List (List Edge) → ℕ → ℕ → Bool
names_in rows of other = list_any (λ e. e.to == other) (row_in rows of)
