-- Tests of vertices.
use Rattle.std.specs.Prelude.{Bool, true, false, ◌==◌}
use Rattle.area_graph.specs.declared.vertex.Vertex.{Vertex}
use Rattle.area_graph.specs.declared.vertex.Vertex.TheVariants.{Router, Network}

-- whether it is a transit network
abbrev pub is_network : Vertex → Bool
is_network (Router _) = false
is_network (Network _) = true

-- whether two vertices are the same
abbrev pub is_same : Vertex → Vertex → Bool
is_same (Router a) (Router b) = a.0 == b.0
is_same (Network a) (Network b) = a.0 == b.0
is_same _ _ = false
