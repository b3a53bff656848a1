-- Edges on paths of least cost, over the same edges otherwise named, and where they start.
use Rattle.std.proofs.Common.{ℕ, ◌+◌, List, ◌∷◌, Some, refl, subst}
use Rattle.area_graph.specs.declared.vertex.Vertex.{Vertex}
use Rattle.area_graph.specs.Paths.{DirectedEdge, path_cost, IsLeastCost, NoPathBelow}
use Rattle.area_graph.proofs.MemberLemmas.{In-from_Contains}
use Rattle.area_graph.proofs.PathLemmas.{IsDistance-same_edges, IsPath-weaker}
use Rattle.least_paths.specs.LeastPaths.{IsOnLeastPath}
use Rattle.least_paths.proofs.Parts.{front_least, splits}

-- the edge is one, and its start has a distance
pub start_on_path : (IsEdge : DirectedEdge Vertex → Type 0) (root : Vertex) (targets : List Vertex) (e : DirectedEdge Vertex)
    → IsOnLeastPath IsEdge root targets e → IsEdge e × ((d : ℕ) × IsLeastCost IsEdge root e.from d)
start_on_path IsEdge root targets e h =
    let s = splits IsEdge root h.target h.es e h.least.path (In-from_Contains h.es e h.on) in
    let low : NoPathBelow IsEdge root h.target (path_cost s.before + (e.cost + path_cost s.after)) =
    subst (λ (n : ℕ). NoPathBelow IsEdge root h.target n) s.costs h.least.least in (
      s.edge,
      (path_cost s.before, front_least IsEdge root e.from h.target s.before (e ∷ s.after) s.to_start (s.edge, refl, s.from_end) low),
    )

module _ (P Q : DirectedEdge Vertex → Type 0) (there : (e : DirectedEdge Vertex) → P e → Q e) (back : (e : DirectedEdge Vertex) → Q e → P e) where
  pub on_same_edges : (root : Vertex) (targets : List Vertex) (e : DirectedEdge Vertex) → IsOnLeastPath P root targets e → IsOnLeastPath Q root targets e
  on_same_edges root targets e h = record {
    target = h.target;
    is_target = h.is_target;
    es = h.es;
    least = record {
      path = IsPath-weaker P Q there root h.target h.es h.least.path;
      least = λ fs q. h.least.least fs (IsPath-weaker Q P back root h.target fs q);
    };
    on = h.on;
  }

  pub least_same_edges : (v w : Vertex) (d : ℕ) → IsLeastCost P v w d → IsLeastCost Q v w d
  least_same_edges v w d near = IsDistance-same_edges P Q there back v w (Some d) near
