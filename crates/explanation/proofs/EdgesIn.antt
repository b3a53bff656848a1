-- The edges of a graph on paths of least cost, as those of an area.
use Rattle.std.proofs.Common.{◌≡◌, ℕ, ◌<◌, ◌^◌, true, List, get_or, None, Some, sym}
use Rattle.std.specs.Prelude.{◌↔◌}
use Rattle.std.specs.List.{Contains}
use Rattle.std.proofs.lemmas.List.Elements.{Contains-get_or}
use Rattle.area_graph.specs.declared.vertex.Vertex.{Vertex}
use Rattle.area_graph.specs.declared.vertex.Vertex.TheVariants.{Router}
use Rattle.area_graph.specs.Area.{used}
use Rattle.area_graph.specs.AreaEdges.{area_edges}
use Rattle.area_graph.specs.Paths.{DirectedEdge, IsLeastCost}
use Rattle.area_graph.specs.Topology.{IsEdge, Topology}
use Rattle.area_graph.specs.Vertex.{is_network}
use Rattle.area_graph.proofs.PathLemmas.{IsDistance-same}
use Rattle.least_paths.specs.LeastPaths.{AreLeastEdges, IsOnLeastPath, edge_of}
use Rattle.least_paths.specs.declared.least_edge.LeastEdge.{LeastEdge}
use Rattle.area_candidates.specs.Views.{AreaViewValue, IsViewed, lsas_in}
use Rattle.spf.specs.Distances.{Distances}
use Rattle.explanation.specs.WaySteps.{IsAt, IsOnWay}
use Rattle.explanation.specs.steps.Edges.{AreEdgesIn}

-- what stands past the end of a list of edges
abbrev pub no_edge : LeastEdge
no_edge = record {
  from = Router (record { 0 = 0 });
  to = Router (record { 0 = 0 });
  cost = 0;
  link_data = record { 0 = 0 };
  distance = 0;
}

module _ (view : AreaViewValue) (targets : List Vertex) (graph : Topology) (tree : Distances) (is : IsViewed view graph tree) (found : List LeastEdge)
    (are : AreLeastEdges graph (Router view.router) targets found) where
  abbrev IsHere : DirectedEdge Vertex → Type 0
  IsHere f = Contains (area_edges (used (lsas_in view))) f

  module _ (start : (e : DirectedEdge Vertex) → IsOnWay view targets e → IsHere e × ((d : ℕ) × IsAt view targets e.from d))
      (paths : (e : DirectedEdge Vertex) → IsOnLeastPath (IsEdge graph) (Router view.router) targets e ↔ IsOnWay view targets e)
      (costs : (v : Vertex) (d : ℕ) → IsLeastCost (IsEdge graph) (Router view.router) v d ↔ IsAt view targets v d) where
    in_area : (e : LeastEdge) → Contains found e → IsOnWay view targets (edge_of e) × IsAt view targets e.from e.distance
    in_area e there =
        let on = (are e).0 there in
        ((paths (edge_of e)).0 on.on_path, (costs e.from e.distance).0 on.start)

    edge_in : (e : LeastEdge) → Contains found e → IsEdge graph (edge_of e)
    edge_in e there = ((is.of_area).edges (edge_of e)).1 (start (edge_of e) (in_area e there).0).0

    free_of : (e : LeastEdge) → Contains found e → is_network e.from ≡ true → e.cost ≡ 0
    free_of e there network = ((is.of_area).shape.from_network (edge_of e) (edge_in e there) network).0

    small_of : (e : LeastEdge) → Contains found e → e.distance < 2 ^ 32
    small_of e there = by (edge_in e there)
      where
        by : IsEdge graph (edge_of e) → e.distance < 2 ^ 32
        by (i, j, arc, at_i, at_j) =
            (is.of_graph).below i e.distance
            (sym (IsDistance-same (IsEdge graph) (Router view.router) e.from (Some e.distance) (get_or tree.distances i None)
            ((are e).0 there).start ((is.of_graph).distance i e.from at_i)))

    pub are_in : AreEdgesIn view targets found
    are_in = record {
      members = λ e. (
        λ there. in_area e there,
        λ both. (are e).1 (record { on_path = (paths (edge_of e)).1 both.0; start = (costs e.from e.distance).1 both.1 }),
      );
      small = λ k d lt. small_of (get_or found k d) (Contains-get_or found k d lt);
      free = free_of;
    }
