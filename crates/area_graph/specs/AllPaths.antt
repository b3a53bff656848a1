-- All paths over a list of edges, each no longer than the list, and the distance that they give
-- (RFC 2328, 16.1). The definitions are `unfoldable`: nothing computes them, and lemmas open them
-- where they say so.
use Rattle.std.specs.Prelude.{ℕ, zero, suc, Bool, ◌&&◌, nat_le, List, [], ◌∷◌, map, length, filter, flat_map, Option}
use Rattle.std.specs.List.{list_all}
use Rattle.std.specs.Ordering.{nat_cmp}
use Rattle.area_graph.specs.Least.{least}
use Rattle.area_graph.specs.Vertex.{is_same}
use Rattle.area_graph.specs.declared.vertex.Vertex.{Vertex}
use Rattle.area_graph.specs.Paths.{DirectedEdge, path_cost}

-- all lists of at most n of these members
unfoldable pub lists_within : {X : Type 0} → ℕ → List X → List (List X)
lists_within zero xs = [] ∷ []
lists_within (suc n) xs = [] ∷ flat_map (λ x. map (λ rest. x ∷ rest) (lists_within n xs)) xs

-- whether the edges lead from one vertex to the other, each starting where the one before ends
unfoldable pub leads : Vertex → List (DirectedEdge Vertex) → Vertex → Bool
leads v [] w = is_same v w
leads v (e ∷ es) w = is_same e.from v && leads e.to es w

-- all paths between two vertices that have no more edges than there are
unfoldable pub paths_of : List (DirectedEdge Vertex) → Vertex → Vertex → List (List (DirectedEdge Vertex))
paths_of edges v w = filter (λ es. leads v es w) (lists_within (length edges) edges)

-- the paths of least cost
unfoldable pub least_paths_of : List (DirectedEdge Vertex) → Vertex → Vertex → List (List (DirectedEdge Vertex))
least_paths_of edges v w = filter (λ es. list_all (λ fs. nat_le (path_cost es) (path_cost fs)) (paths_of edges v w)) (paths_of edges v w)

-- the least cost of a path, and none where there is no path
unfoldable pub distance_of : List (DirectedEdge Vertex) → Vertex → Vertex → Option ℕ
distance_of edges v w = least nat_cmp (map (λ es. path_cost es) (paths_of edges v w))
