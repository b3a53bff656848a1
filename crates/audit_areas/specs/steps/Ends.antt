-- The vertex to which an edge of a graph's row leads.
use Rattle.std.specs.Prelude.{slice_index_or}
use Rattle.area_graph.specs.declared.edge.Edge.{Edge}
use Rattle.area_graph.specs.declared.vertex.Vertex.{Vertex}
use Rattle.area_graph.specs.declared.vertex.Vertex.TheVariants.{Router}
use Rattle.area_graph.specs.Topology.{Topology}

abbrev pub end_at : Topology → Edge → Vertex
end_at t e = slice_index_or t.vertices e.to (Router (record { 0 = 0 }))
