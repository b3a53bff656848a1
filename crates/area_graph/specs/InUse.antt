-- The LSA in use of a vertex.
use Rattle.std.specs.Prelude.{◌≡◌, ℕ, List, Contains}
use Rattle.area_graph.specs.declared.vertex.Vertex.{Vertex}
use Rattle.area_graph.specs.Area.{used, vertex_of}

-- an LSA in use in an area with these LSAs: the LSA of this vertex
pub record IsLsaOf (lsas : List (List ℕ)) (vertex : Vertex) (lsa : List ℕ) : Type 0 where
  pub in_use : Contains (used lsas) lsa
  pub own : vertex_of lsa ≡ vertex
