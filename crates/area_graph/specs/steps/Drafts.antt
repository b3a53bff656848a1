-- Graphs to which edges are added.
use Rattle.std.specs.Prelude.{◌≡◌, ◌≢◌, ℕ, zero, suc, ◌<◌, ◌≤◌, ◌^◌, ◌==◌, Bool, false, if◌then◌else◌, List, [], ◌∷◌, ◌++◌, length, map, filter}
use Rattle.std.specs.Prelude.{flat_map, All, AllPairs, slice_get, slice_set}
use Rattle.std.specs.Option.{option_map, unwrap_or}
use Rattle.area_graph.specs.declared.vertex.Vertex.{Vertex}
use Rattle.area_graph.specs.declared.edge.Edge.{Edge}
use Rattle.area_graph.specs.Vertex.{is_network}
use Rattle.area_graph.specs.Paths.{DirectedEdge}
use Rattle.area_graph.specs.Topology.{Topology, IsArc, row_at}
use Rattle.area_graph.specs.AreaEdges.{edges_over, back}
use Rattle.area_graph.specs.Rows.{same_edge, each_once}
use Rattle.area_graph.specs.steps.Naming.{row_in, names_in}

-- the properties of a graph while edges are added
pub record IsDraft (t : Topology) : Type 0 where
  pub a_row_each : length t.rows ≡ length t.vertices
  pub few : length t.vertices ≤ 8192
  pub distinct : AllPairs (λ v w. v ≢ w) t.vertices
  pub in_range : (e : DirectedEdge ℕ) → IsArc t e → e.to < length t.vertices
  pub cost_below : (e : DirectedEdge ℕ) → IsArc t e → e.cost < 2 ^ 16

-- the graph with one more edge in a row
abbrev pub with_edge : Topology → ℕ → Edge → Topology
with_edge t i e = record { vertices = t.vertices; rows = slice_set t.rows i (row_at t i ++ e ∷ []) }

-- an edge between numbers, from an edge in the row of the first of them
abbrev pub arc_of : ℕ → Edge → DirectedEdge ℕ
arc_of i e = record { from = i; to = e.to; cost = e.cost; link_data = e.link_data }

abbrev pub edge_of : DirectedEdge ℕ → Edge
edge_of a = record { to = a.to; cost = a.cost; link_data = a.link_data }

-- those out of one number
abbrev pub out_of : ℕ → List (DirectedEdge ℕ) → List Edge
out_of i arcs = map edge_of (filter (λ a. a.from == i) arcs)

-- each row has received those of these edges that leave its vertex, in their order
pub record Adds (arcs : List (DirectedEdge ℕ)) (old new : Topology) : Type 0 where
  pub rows : (i : ℕ) → row_at new i ≡ row_at old i ++ out_of i arcs

-- whether the vertex with a number is a network
abbrev pub is_network_at : List Vertex → ℕ → Bool
is_network_at vertices i = unwrap_or (option_map is_network (slice_get vertices i)) false

abbrev pub arc_back : DirectedEdge ℕ → DirectedEdge ℕ
arc_back a = record { from = a.to; to = a.from; cost = 0; link_data = a.link_data }

-- an edge and, where it leads to a network, the edge back
abbrev pub both_arcs : List Vertex → DirectedEdge ℕ → List (DirectedEdge ℕ)
both_arcs vertices a = if is_network_at vertices a.to then a ∷ arc_back a ∷ [] else a ∷ []

-- of these edges, those whose other end names the first in its row, and their ways back
abbrev pub returned_arcs : List Vertex → List (List Edge) → List (DirectedEdge ℕ) → List (DirectedEdge ℕ)
returned_arcs vertices naming arcs = flat_map (both_arcs vertices) (filter (λ a. names_in naming a.to a.from) arcs)

-- the edges over the links of a vertex, which is a router
abbrev pub row_arcs : List Vertex → List (List Edge) → ℕ → List (DirectedEdge ℕ)
row_arcs vertices naming i = if is_network_at vertices i then [] else returned_arcs vertices naming (map (arc_of i) (row_in naming i))

-- those of the first vertices
abbrev pub arcs_below : List Vertex → List (List Edge) → ℕ → List (DirectedEdge ℕ)
arcs_below vertices naming zero = []
arcs_below vertices naming (suc n) = arcs_below vertices naming n ++ row_arcs vertices naming n

-- the rows name only these
abbrev pub AreWithin : ℕ → List (List Edge) → Type 0
AreWithin count rows = (i : ℕ) → All (λ e. e.to < count) (row_in rows i)

-- an edge of an area and, where it leads to a network, the edge back
abbrev pub both_ways : DirectedEdge Vertex → List (DirectedEdge Vertex)
both_ways e = if is_network e.to then e ∷ back e ∷ [] else e ∷ []

-- of these edges, those whose other end links back, and their ways back
abbrev pub returned : (Vertex → Vertex → Bool) → List (DirectedEdge Vertex) → List (DirectedEdge Vertex)
returned links_back es = flat_map both_ways (filter (λ e. links_back e.to e.from) es)

-- the edges over the links of LSAs
abbrev pub over_lsas : (Vertex → Vertex → Bool) → List (List ℕ) → List (DirectedEdge Vertex)
over_lsas links_back lsas = returned links_back (flat_map edges_over lsas)

-- the graph where each edge occurs once in its row
abbrev pub edges_once : Topology → Topology
edges_once t = record { vertices = t.vertices; rows = map (each_once same_edge) t.rows }
