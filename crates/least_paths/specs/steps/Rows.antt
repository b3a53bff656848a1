-- The edges on paths of least cost, row by row.
use Rattle.std.specs.Prelude.{ℕ, zero, suc, Bool, if◌then◌else◌, List, [], ◌++◌, Option, None, Some, filter_map, slice_index_or}
use Rattle.area_graph.specs.declared.edge.Edge.{Edge}
use Rattle.area_graph.specs.declared.vertex.Vertex.{Vertex}
use Rattle.area_graph.specs.declared.vertex.Vertex.TheVariants.{Router}
use Rattle.area_graph.specs.Topology.{Topology, row_at}
use Rattle.least_paths.specs.declared.least_edge.LeastEdge.{LeastEdge}
use Rattle.least_paths.specs.steps.Marks.{leads_on}

-- the vertex with a number
abbrev pub vertex_at : Topology → ℕ → Vertex
vertex_at t i = slice_index_or t.vertices i (Router (record { 0 = 0 }))

-- an edge of the row of a vertex at a distance
abbrev pub edge_at : Topology → ℕ → ℕ → Edge → LeastEdge
edge_at t i d o = record { from = vertex_at t i; to = vertex_at t o.to; cost = o.cost; link_data = o.link_data; distance = d }

module _ (t : Topology) (ds : List (Option ℕ)) (marks : List Bool) where
  -- the same, if it leads on to a marked vertex
  abbrev pub least_by : ℕ → Edge → Option ℕ → Option LeastEdge
  least_by i o None = None
  least_by i o (Some d) = if leads_on ds marks d o then Some (edge_at t i d o) else None

  abbrev pub least_at : ℕ → Edge → Option LeastEdge
  least_at i o = least_by i o (slice_index_or ds i None)

  -- those of the row of a vertex
  abbrev pub least_row : ℕ → List LeastEdge
  least_row i = filter_map (least_at i) (row_at t i)

  -- those of the rows of the vertices below a number
  unfoldable pub least_rows : ℕ → List LeastEdge
  least_rows zero = []
  least_rows (suc i) = least_rows i ++ least_row i
