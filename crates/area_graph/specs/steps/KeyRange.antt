-- What is known of each LSA of a vertex.
use Rattle.std.specs.Prelude.{◌≡◌, ℕ, List, true}
use Rattle.lsa_codec.specs.Accepted.{IsAccepted}
use Rattle.area_graph.specs.declared.vertex.Vertex.{Vertex}
use Rattle.area_graph.specs.Area.{is_vertex_lsa, vertex_of}

pub record IsOfVertex (vertex : Vertex) (lsa : List ℕ) : Type 0 where
  pub accepted : IsAccepted lsa
  pub live : is_vertex_lsa lsa ≡ true
  pub own : vertex_of lsa ≡ vertex
