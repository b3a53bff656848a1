-- The graph of an area.
use Rattle.std.specs.Prelude.{◌≡◌, ◌≢◌, ◌↔◌, ℕ, ◌≤◌, List, length, All, AllPairs, Contains, Option, Some, None}
use Rattle.lsa_codec.specs.Key.{key_of}
use Rattle.lsa_codec.specs.Accepted.{IsAccepted}
use Rattle.lsdb.specs.Lists.{SectionLsas}
use Rattle.area_graph.specs.declared.vertex.Vertex.{Vertex}
use Rattle.area_graph.specs.declared.fault.GraphFault.{GraphFault}
use Rattle.area_graph.specs.declared.fault.GraphFault.TheVariants.{NoArea, OutOfMemory}
use Rattle.area_graph.specs.Paths.{DirectedEdge}
use Rattle.area_graph.specs.Topology.{Topology, IsTopology, IsEdge, row_at}
use Rattle.area_graph.specs.Area.{used, vertices_of}
use Rattle.area_graph.specs.AreaEdges.{area_edges}
use Rattle.area_graph.specs.Rows.{rows_of}

-- the graph of an area with these LSAs: the vertices in the order of the LSAs in use, and each edge once. The first two
-- fields determine it; the others follow for its edges
pub record IsGraphOf (lsas : List (List ℕ)) (graph : Topology) : Type 0 where
  pub vertices : graph.vertices ≡ vertices_of lsas
  pub rows : graph.rows ≡ rows_of lsas
  pub edges : (e : DirectedEdge Vertex) → IsEdge graph e ↔ Contains (area_edges (used lsas)) e
  pub once : (i : ℕ) → AllPairs (λ e f. e ≢ f) (row_at graph i)
  pub shape : IsTopology graph

-- when each fault comes, for the area if it is there
abbrev pub FaultMeans : Option SectionLsas → GraphFault → Type 0
FaultMeans None fault = fault ≡ NoArea
FaultMeans (Some area) fault = fault ≡ OutOfMemory

-- the properties of the LSAs of an area in a database
pub record AreOfArea (lsas : List (List ℕ)) : Type 0 where
  pub accepted : All IsAccepted lsas
  pub distinct : AllPairs (λ a b. key_of a ≢ key_of b) lsas
  pub few : length lsas ≤ 8192
