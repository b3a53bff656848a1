-- `==` of the crate's types.
use Rattle.std.proofs.Common.{◌≡◌, Bool, refl}
use Rattle.area_graph.specs.declared.vertex.Vertex.{Vertex}
use Rattle.area_graph.specs.declared.vertex.Vertex.TheVariants.{Router, Network}
use Rattle.area_graph.specs.contracts.vertex.VertexPartialEq.TheImpl as vertex_impl
use Rattle.area_graph.specs.contracts.edge.EdgePartialEq.TheImpl as edge_impl
use Rattle.area_graph.specs.declared.edge.Edge.{Edge}
use Rattle.area_graph.specs.Rows.{same_edge}
use Rattle.area_graph.specs.Vertex.{is_same}

abbrev pub vertex_eq : Vertex → Vertex → Bool
vertex_eq = (vertex_impl.ghosts).eq

pub vertex_eq-is : (v w : Vertex) → vertex_eq v w ≡ is_same v w
vertex_eq-is (Router v) (Router w) = refl
vertex_eq-is (Router v) (Network n) = refl
vertex_eq-is (Network n) (Router v) = refl
vertex_eq-is (Network n) (Network m) = refl

abbrev pub edge_eq : Edge → Edge → Bool
edge_eq = (edge_impl.ghosts).eq

edge_by : (a b : Edge) → edge_eq a b ≡ same_edge a b
edge_by a b = refl

pub edge_eq-is : edge_eq ≡ same_edge
edge_eq-is = λ i a b. edge_by a b i
