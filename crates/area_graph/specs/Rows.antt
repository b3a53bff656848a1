-- The rows of the graph of an area, as a function of its LSAs (RFC 2328, 16.1).
use Rattle.std.specs.Prelude.{ℕ, Bool, ◌==◌, ◌&&◌, if◌then◌else◌, List, [], ◌∷◌, ◌++◌, fold, map, filter, filter_map, position, Option}
use Rattle.std.specs.List.{list_any}
use Rattle.std.specs.Option.{option_map}
use Rattle.area_graph.specs.declared.vertex.Vertex.{Vertex}
use Rattle.area_graph.specs.declared.edge.Edge.{Edge}
use Rattle.area_graph.specs.Vertex.{is_same}
use Rattle.area_graph.specs.Paths.{DirectedEdge}
use Rattle.area_graph.specs.Area.{used, vertices_of}
use Rattle.area_graph.specs.AreaEdges.{area_edges}

abbrev pub same_edge : Edge → Edge → Bool
same_edge a b = (a.to == b.to) && ((a.cost == b.cost) && (a.link_data.0 == b.link_data.0))

-- the members of a list, each at its first place alone
abbrev pub each_once : {X : Type 0} → (X → X → Bool) → List X → List X
each_once same xs = fold (λ kept x. if list_any (same x) kept then kept else kept ++ x ∷ []) [] xs

-- an edge in the row of its first vertex, if the vertex that it leads to has a number
abbrev pub numbered : List Vertex → DirectedEdge Vertex → Option Edge
numbered vertices e = option_map (λ to. record { to = to; cost = e.cost; link_data = e.link_data }) (position (is_same e.to) vertices)

-- whether an edge leads out of a vertex
abbrev pub is_out_of : Vertex → DirectedEdge Vertex → Bool
is_out_of v e = is_same e.from v

-- the row of a vertex: the edges out of it, each once, in the order of their links in the router-LSAs of the area
unfoldable pub row_of : List (List ℕ) → Vertex → List Edge
row_of lsas v = each_once same_edge (filter_map (numbered (vertices_of lsas)) (filter (is_out_of v) (area_edges (used lsas))))

-- the rows of all vertices, in the order of the LSAs in use
abbrev pub rows_of : List (List ℕ) → List (List Edge)
rows_of lsas = map (row_of lsas) (vertices_of lsas)
