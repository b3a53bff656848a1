-- The first hops of the paths of least cost (RFC 2328, 16.1.1).
use Rattle.std.specs.Prelude.{◌≡◌, ℕ, ◌+◌, ◌<◌, ◌↔◌, length, slice_index_or, slice_get, List, [], ◌∷◌, Option, None, Some, Contains, map, filter_map}
use Rattle.lsa_codec.specs.declared.address.Addr.{Addr}
use Rattle.area_graph.specs.declared.vertex.Vertex.{Vertex}
use Rattle.area_graph.specs.declared.vertex.Vertex.TheVariants.{Router, Network}
use Rattle.area_graph.specs.Paths.{DirectedEdge, path_cost, IsPath, NoPathBelow}
use Rattle.area_graph.specs.AllPaths.{least_paths_of}
use Rattle.area_graph.specs.Rising.{rising}
use Rattle.area_graph.specs.Topology.{Topology, IsEdge, edges_of}
use Rattle.next_hops.specs.declared.hop.Hop.{Hop}
use Rattle.next_hops.specs.declared.hop.Hop.TheVariants.{Link, Attached, Gateway}
use Rattle.next_hops.specs.Hop.{hop_cmp}

-- the hop over an edge that carries d to this vertex, and then over the rest of a path: to a
-- router over the link; to a network on its interface; through a network to the router whose
-- address the next edge carries
abbrev pub hop_to : Vertex → Addr → List (DirectedEdge Vertex) → Hop
hop_to (Router _) d rest = Link d
hop_to (Network _) d [] = Attached d
hop_to (Network _) d (e ∷ rest) = Gateway d e.link_data

-- the first hop of a path, by its first two edges alone; the empty path has none
abbrev pub first_hop : List (DirectedEdge Vertex) → Option Hop
first_hop [] = None
first_hop (e ∷ es) = Some (hop_to e.to e.link_data es)

-- the first hops of all paths of least cost over these edges, in rising order, each once
unfoldable pub hops_of : List (DirectedEdge Vertex) → Vertex → Vertex → List Hop
hops_of edges root w = rising hop_cmp (filter_map (λ es. first_hop es) (least_paths_of edges root w))

-- a hop is the first of some path of least cost, among all paths of any length
abbrev pub IsHopTo : (DirectedEdge Vertex → Type 0) → Vertex → Vertex → Hop → Type 0
IsHopTo IsEdge root w hop =
    (es : List (DirectedEdge Vertex)) × IsPath IsEdge root es w × NoPathBelow IsEdge root w (path_cost es) × (first_hop es ≡ Some hop)

-- no cycle has cost 0: the cost of two edges, one after the other, is not 0
abbrev pub NothingFree : List (DirectedEdge Vertex) → Type 0
NothingFree edges = (e f : DirectedEdge Vertex) → Contains edges e → Contains edges f → f.from ≡ e.to → 0 < e.cost + f.cost

-- the hops of each vertex of a graph, from one of them
abbrev pub table_of : Topology → Vertex → List (List Hop)
table_of t root = map (λ w. hops_of (edges_of t) root w) t.vertices

-- the hops of the vertex with a number
abbrev pub hops_at : List (List Hop) → ℕ → List Hop
hops_at table i = slice_index_or table i []

-- for each vertex, these are the first hops of all paths of least cost from the root
pub record AreHopsOf (t : Topology) (root : Vertex) (table : List (List Hop)) : Type 0 where
  pub sized : length table ≡ length t.vertices
  pub members : (i : ℕ) (w : Vertex) → slice_get t.vertices i ≡ Some w → (h : Hop) → Contains (hops_at table i) h ↔ IsHopTo (IsEdge t) root w h
