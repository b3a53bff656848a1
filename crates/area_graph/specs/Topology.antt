-- The graph of an area as numbered vertices with lists of edges.
use Rattle.std.specs.Prelude.{◌≡◌, ◌≢◌, ℕ, ◌<◌, ◌≤◌, ◌^◌, List, [], length, Some, true, false, AllPairs, Contains, slice_get, slice_index_or, Option, flat_map, filter_map, zip}
use Rattle.std.specs.Option.{option_map}
use Rattle.area_graph.specs.declared.vertex.Vertex.{Vertex}
use Rattle.area_graph.specs.Vertex.{is_network}
use Rattle.area_graph.specs.Paths.{DirectedEdge}
use Rattle.area_graph.specs.declared.edge.Edge.{Edge}

-- the vertices in order, and the edges out of each
pub record Topology : Type 0 where
  pub vertices : List Vertex
  pub rows : List (List Edge)

-- the edges out of a vertex
abbrev pub row_at : Topology → ℕ → List Edge
row_at t i = slice_index_or t.rows i []

-- an edge between the vertices' numbers
abbrev pub IsArc : Topology → DirectedEdge ℕ → Type 0
IsArc t e = Contains (row_at t e.from) (record { to = e.to; cost = e.cost; link_data = e.link_data })

-- an edge between the vertices themselves
abbrev pub IsEdge : Topology → DirectedEdge Vertex → Type 0
IsEdge t e =
    (i : ℕ) × (j : ℕ) × IsArc t (record { from = i; to = j; cost = e.cost; link_data = e.link_data })
    × (slice_get t.vertices i ≡ Some e.from) × (slice_get t.vertices j ≡ Some e.to)

-- the edge from a vertex that an edge of its row stands for
abbrev pub edge_from : Topology → Vertex → Edge → Option (DirectedEdge Vertex)
edge_from t v e = option_map (λ w. record { from = v; to = w; cost = e.cost; link_data = e.link_data }) (slice_get t.vertices e.to)

-- all edges between the vertices themselves, vertex by vertex
unfoldable pub edges_of : Topology → List (DirectedEdge Vertex)
edges_of t = flat_map (λ p. filter_map (λ e. edge_from t p.0 e) p.1) (zip t.vertices t.rows)

-- the properties of every graph of an area: no row has an edge twice, a network has edges of cost 0 to routers alone,
-- and the cost of a router's edges is not 0
pub record IsTopology (t : Topology) : Type 0 where
  pub a_row_each : length t.rows ≡ length t.vertices
  pub few : length t.vertices ≤ 8192
  pub distinct : AllPairs (λ v w. v ≢ w) t.vertices
  pub once : (i : ℕ) → AllPairs (λ e f. e ≢ f) (row_at t i)
  pub in_range : (e : DirectedEdge ℕ) → IsArc t e → e.to < length t.vertices
  pub cost_below : (e : DirectedEdge ℕ) → IsArc t e → e.cost < 2 ^ 16
  pub from_network : (e : DirectedEdge Vertex) → IsEdge t e → is_network e.from ≡ true → (e.cost ≡ 0) × (is_network e.to ≡ false)
  pub from_router : (e : DirectedEdge Vertex) → IsEdge t e → is_network e.from ≡ false → 0 < e.cost
