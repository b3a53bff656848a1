-- Which vertices are marked: those from which a path of least cost goes on to a target.
use Rattle.std.specs.Prelude.{◌≡◌, ℕ, ◌+◌, Bool, false, true, ◌&&◌, ◌==◌, List, length, Option, None, Some, IsSome, Contains, slice_get, slice_index_or, ◌⊎◌}
use Rattle.area_graph.specs.declared.edge.Edge.{Edge}
use Rattle.area_graph.specs.declared.vertex.Vertex.{Vertex}
use Rattle.area_graph.specs.Paths.{DirectedEdge, path_cost, IsPath, IsLeastCost}
use Rattle.area_graph.specs.Topology.{Topology, IsEdge, row_at}

-- from a vertex some path goes on to a target, so that with the distance of the vertex it costs the distance of the target
pub record GoesOn (t : Topology) (root : Vertex) (targets : List Vertex) (v : Vertex) : Type 0 where
  pub target : Vertex
  pub is_target : Contains targets target
  pub rest : List (DirectedEdge Vertex)
  pub path : IsPath (IsEdge t) v rest target
  pub distance : ℕ
  pub near : IsLeastCost (IsEdge t) root v distance
  pub whole : IsLeastCost (IsEdge t) root target (distance + path_cost rest)

-- the vertex with this number is marked
abbrev pub IsMarked : List Bool → ℕ → Type 0
IsMarked marks i = slice_index_or marks i false ≡ true

-- new is old, and the vertices of which P holds are marked, too
pub record Marks (P : ℕ → Type 0) (old new : List Bool) : Type 0 where
  pub sized : length new ≡ length old
  pub kept : (i : ℕ) → IsMarked old i → IsMarked new i
  pub marked : (i : ℕ) → P i → IsMarked new i
  pub only : (i : ℕ) → IsMarked new i → IsMarked old i ⊎ P i

-- the number of a target that is reached
pub record IsReached (t : Topology) (ds : List (Option ℕ)) (target : Vertex) (i : ℕ) : Type 0 where
  pub at : slice_get t.vertices i ≡ Some target
  pub reached : IsSome (slice_index_or ds i None)

-- the number of one of some targets that is reached
pub record IsReachedTarget (t : Topology) (ds : List (Option ℕ)) (targets : List Vertex) (i : ℕ) : Type 0 where
  pub target : Vertex
  pub one : Contains targets target
  pub is : IsReached t ds target i

-- ---- edges

-- the distance is this number
abbrev pub is_at : Option ℕ → ℕ → Bool
is_at None d = false
is_at (Some far) d = d == far

-- whether an edge out of a vertex at a distance is the last of a path of least cost, and leads to a marked vertex
abbrev pub leads_on : List (Option ℕ) → List Bool → ℕ → Edge → Bool
leads_on ds marks d e = is_at (slice_index_or ds e.to None) (d + e.cost) && slice_index_or marks e.to false

-- an edge out of a vertex leads on to a marked one
pub record LeadsOn (t : Topology) (ds : List (Option ℕ)) (marks : List Bool) (i : ℕ) : Type 0 where
  pub distance : ℕ
  pub at : slice_index_or ds i None ≡ Some distance
  pub edge : Edge
  pub out : Contains (row_at t i) edge
  pub on : leads_on ds marks distance edge ≡ true

-- ---- all vertices

-- those from which a path of least cost goes on are marked, and no others
pub record AreMarks (t : Topology) (root : Vertex) (targets : List Vertex) (marks : List Bool) : Type 0 where
  pub sized : length marks ≡ length t.vertices
  pub sound : (i : ℕ) (v : Vertex) → slice_get t.vertices i ≡ Some v → IsMarked marks i → GoesOn t root targets v
  pub all : (i : ℕ) (v : Vertex) → slice_get t.vertices i ≡ Some v → GoesOn t root targets v → IsMarked marks i
