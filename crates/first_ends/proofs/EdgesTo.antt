-- The edges of a graph on paths of least cost, as those of an area.
use Rattle.std.proofs.Common.{◌≡◌, ℕ, true, List}
use Rattle.std.specs.Prelude.{◌↔◌}
use Rattle.std.specs.List.{Contains}
use Rattle.area_graph.specs.declared.vertex.Vertex.{Vertex}
use Rattle.area_graph.specs.declared.vertex.Vertex.TheVariants.{Router}
use Rattle.area_graph.specs.Area.{used}
use Rattle.area_graph.specs.AreaEdges.{area_edges}
use Rattle.area_graph.specs.Paths.{DirectedEdge, IsLeastCost}
use Rattle.area_graph.specs.Topology.{IsEdge, Topology}
use Rattle.least_paths.specs.LeastPaths.{AreLeastEdges, IsOnLeastPath, edge_of, is_on_way}
use Rattle.least_paths.specs.declared.least_edge.LeastEdge.{LeastEdge}
use Rattle.area_candidates.specs.Views.{AreaViewValue, lsas_in}
use Rattle.first_ends.specs.steps.Ends.{AreEdgesTo, IsEdgeTo}

module _ (view : AreaViewValue) (vertices : List Vertex) (graph : Topology) (found : List LeastEdge) where
  abbrev edges : List (DirectedEdge Vertex)
  edges = area_edges (used (lsas_in view))

  abbrev IsOn : DirectedEdge Vertex → Type 0
  IsOn e = IsOnLeastPath (λ f. Contains edges f) (Router view.router) vertices e

  pub edges_are_those :
      AreLeastEdges graph (Router view.router) vertices found
      → ((e : DirectedEdge Vertex) → Contains edges e → (is_on_way edges (Router view.router) vertices e ≡ true) ↔ IsOn e)
      → ((e : DirectedEdge Vertex) → IsOn e → Contains edges e × ((d : ℕ) × IsLeastCost (λ f. Contains edges f) (Router view.router) e.from d))
      → ((e : DirectedEdge Vertex) → IsOnLeastPath (IsEdge graph) (Router view.router) vertices e ↔ IsOn e)
      → ((v : Vertex) (d : ℕ) → IsLeastCost (IsEdge graph) (Router view.router) v d ↔ IsLeastCost (λ f. Contains edges f) (Router view.router) v d)
      → AreEdgesTo view vertices found
  edges_are_those least by_distances start paths costs = record { are = are; all = all }
    where
      are : (e : LeastEdge) → Contains found e → IsEdgeTo view vertices (edge_of e)
      are e there =
          let on = (paths (edge_of e)).0 ((least e).0 there).on_path in
          let here = (start (edge_of e) on).0 in
          (here, (by_distances (edge_of e) here).1 on)

      all : (e : DirectedEdge Vertex) → IsEdgeTo view vertices e → (d : ℕ)
          × Contains found (record { from = e.from; to = e.to; cost = e.cost; link_data = e.link_data; distance = d })
      all e (here, way) =
          let on = (by_distances e here).0 way in
          let at = (start e on).1 in
          let one : LeastEdge = record { from = e.from; to = e.to; cost = e.cost; link_data = e.link_data; distance = at.0 } in
          (at.0, (least one).1 (record { on_path = (paths e).1 on; start = (costs e.from at.0).1 at.1 }))
