-- `edges_of` has exactly the edges.
use Rattle.std.proofs.Common.{◌≡◌, ℕ, ◌+◌, ◌<◌, Bool, true, false, List, [], length, Option, None, Some, refl, sym, ap, subst, arith, ⊎_elim}
use Rattle.std.specs.Prelude.{option_map}
use Rattle.std.specs.List.{slice_get, Contains, flat_map, filter_map, zip}
use Rattle.std.proofs.lemmas.List.{get_or_past}
use Rattle.std.proofs.lemmas.Bool.{cases_lt}
use Rattle.area_graph.specs.declared.vertex.Vertex.{Vertex}
use Rattle.area_graph.specs.Vertex.{is_network}
use Rattle.area_graph.specs.Paths.{DirectedEdge, IsDistance}
use Rattle.area_graph.specs.AllPaths.{distance_of}
use Rattle.area_graph.proofs.MemberLemmas.{In, In-from_Contains, Contains-from_In, In-flat_map, flat_map-In, In-filter_map, filter_map-In, In-zip}
use Rattle.area_graph.proofs.MemberLemmas.{zip-In, Some-same}
use Rattle.area_graph.proofs.AllPathsLemmas.{NothingFree, distance_of-is, IsDistance-distance_of}
use Rattle.area_graph.proofs.PathLemmas.{IsDistance-same_edges}
use Rattle.area_graph.specs.declared.edge.Edge.{Edge}
use Rattle.area_graph.specs.Topology.{Topology, IsTopology, IsEdge, row_at, edge_from, edges_of}

module _ (t : Topology) where
  has_row : (i : ℕ) (e : Edge) → Contains (row_at t i) e → i < length t.rows
  has_row i e h =
      ⊎_elim (λ within. within)
      (λ past. absurd (subst (λ (xs : List Edge). In xs e) (get_or_past t.rows i [] past) (In-from_Contains (row_at t i) e h)))
      (cases_lt i (length t.rows))

  pub edges_of-has : (e : DirectedEdge Vertex) → IsEdge t e → Contains (edges_of t) e
  unfolding edges_of
  edges_of-has e (i, j, arc, at_from, at_to) =
      let o : Edge = record { to = j; cost = e.cost; link_data = e.link_data } in
      let make : Vertex → DirectedEdge Vertex = λ w. record { from = e.from; to = w; cost = e.cost; link_data = e.link_data } in
      let is : edge_from t e.from o ≡ Some e = ap (λ (v : Option Vertex). option_map make v) at_to in
      Contains-from_In (flat_map (λ p. filter_map (λ f. edge_from t p.0 f) p.1) (zip t.vertices t.rows)) e
      (In-flat_map (λ p. filter_map (λ f. edge_from t p.0 f) p.1) (zip t.vertices t.rows) (e.from, row_at t i) e
      (In-zip t.vertices t.rows i e.from [] at_from (has_row i o arc))
      (In-filter_map (λ f. edge_from t e.from f) (row_at t i) o e (In-from_Contains (row_at t i) o arc) is))

  pub edges_of-only : (e : DirectedEdge Vertex) → Contains (edges_of t) e → IsEdge t e
  unfolding edges_of
  edges_of-only e h =
      let p = flat_map-In (λ p. filter_map (λ f. edge_from t p.0 f) p.1) (zip t.vertices t.rows) e
      (In-from_Contains (flat_map (λ p. filter_map (λ f. edge_from t p.0 f) p.1) (zip t.vertices t.rows)) e h) in
      let row = zip-In t.vertices t.rows p.0 [] p.1 in
      let o = filter_map-In (λ f. edge_from t (p.0).0 f) (p.0).1 e p.2 in
      by_target row.0 (p.0).0 o.0 row.1 (Contains-from_In (row_at t row.0) o.0 (subst (λ (xs : List Edge). In xs o.0) (sym row.2) o.1))
      (slice_get t.vertices (o.0).to) refl o.2
    where
      by_target : (i : ℕ) (v : Vertex) (o : Edge) → slice_get t.vertices i ≡ Some v → Contains (row_at t i) o → (w : Option Vertex)
          → slice_get t.vertices o.to ≡ w
          → option_map (λ w. let f : DirectedEdge Vertex = record { from = v; to = w; cost = o.cost; link_data = o.link_data } in f) w ≡ Some e → IsEdge t e
      by_target i v o at_v there None at_w is = absurd (cc)
      by_target i v o at_v there (Some w) at_w is = subst (λ (f : DirectedEdge Vertex). IsEdge t f) (Some-same is) (i, o.to, there, at_v, at_w)

  -- the cost of two edges, one after the other, is not 0
  pub NothingFree-edges : IsTopology t → NothingFree (edges_of t)
  NothingFree-edges shape e f there next joined = by_kind (is_network e.from) (is_network f.from) refl refl
    where
      by_kind : (b c : Bool) → is_network e.from ≡ b → is_network f.from ≡ c → 0 < e.cost + f.cost
      by_kind false c is kind = let some : 0 < e.cost = shape.from_router e (edges_of-only e there) is in omega arith
      by_kind true false is kind = let some : 0 < f.cost = shape.from_router f (edges_of-only f next) kind in omega arith
      by_kind true true is kind =
          let leads = (shape.from_network e (edges_of-only e there) is).1 in
          let same : is_network f.from ≡ is_network e.to = ap (λ (v : Vertex). is_network v) joined in
          absurd (cc)

  -- what is the distance is `distance_of`
  pub distance-is : (v w : Vertex) (o : Option ℕ) → IsDistance (IsEdge t) v w o → o ≡ distance_of (edges_of t) v w
  distance-is v w o h = distance_of-is (edges_of t) (IsEdge t) edges_of-has edges_of-only v w o h

  -- and `distance_of` is the distance
  pub IsDistance-edges : (v w : Vertex) → IsDistance (IsEdge t) v w (distance_of (edges_of t) v w)
  IsDistance-edges v w = IsDistance-same_edges (λ e. Contains (edges_of t) e) (IsEdge t) edges_of-only edges_of-has v w (distance_of (edges_of t) v w)
      (IsDistance-distance_of (edges_of t) v w)

  -- where the graph has the edges of another list, such as those of an area's LSAs
  pub distance_of-edges : (edges : List (DirectedEdge Vertex)) → ((e : DirectedEdge Vertex) → IsEdge t e → Contains edges e)
      → ((e : DirectedEdge Vertex) → Contains edges e → IsEdge t e) → (v w : Vertex) → distance_of (edges_of t) v w ≡ distance_of edges v w
  distance_of-edges edges there back v w = distance_of-is edges (IsEdge t) there back v w (distance_of (edges_of t) v w) (IsDistance-edges v w)
