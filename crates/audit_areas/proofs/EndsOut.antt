-- The ends of the edges out of a vertex, in the graph and among the edges of the area.
use Rattle.std.proofs.Common.{◌≡◌, ℕ, ◌<◌, Bool, true, false, eqb, not, List, [], ◌∷◌, map, length, Some, refl, sym, ap, subst, ◌∙◌, arith}
use Rattle.std.specs.Prelude.{◌&&◌}
use Rattle.std.specs.List.{Contains, list_any, slice_get}
use Rattle.std.proofs.lemmas.Bool.{and_from, and_parts, eqb-true}
use Rattle.std.proofs.lemmas.Option.{get_or_from_slice_get, slice_get-get_or, slice_get_within}
use Rattle.area_graph.specs.declared.edge.Edge.{Edge}
use Rattle.area_graph.specs.declared.vertex.Vertex.{Vertex}
use Rattle.area_graph.specs.declared.vertex.Vertex.TheVariants.{Router}
use Rattle.area_graph.specs.Area.{used}
use Rattle.area_graph.specs.AreaEdges.{area_edges}
use Rattle.area_graph.specs.Graphs.{IsGraphOf}
use Rattle.area_graph.specs.Paths.{DirectedEdge}
use Rattle.area_graph.specs.Rows.{is_out_of}
use Rattle.area_graph.specs.Topology.{IsEdge, Topology, row_at}
use Rattle.area_graph.specs.Vertex.{is_same}
use Rattle.area_graph.proofs.AllPathsLemmas.{is_same-from, same_from_is_same}
use Rattle.area_graph.proofs.MemberLemmas.{Contains-from_In, In, In-from_Contains, In-list_any, In-map, list_any-In, map-In}
use Rattle.area_graph.proofs.TopologyLemmas.{one_number}
use Rattle.audit_areas.specs.Areas.{AreEnds, has_edge, has_end}
use Rattle.audit_areas.specs.steps.Ends.{end_at}

-- two tests that pass together have one answer
same_answer : (a b : Bool) → (a ≡ true → b ≡ true) → (b ≡ true → a ≡ true) → a ≡ b
same_answer true b there back = sym (there refl)
same_answer false true there back = back refl
same_answer false false there back = refl

abbrev out_to : Vertex → (Vertex → Bool) → DirectedEdge Vertex → Bool
out_to v test e = is_out_of v e && test e.to

module _ (lsas : List (List ℕ)) (t : Topology) (graph : IsGraphOf lsas t) (v : Vertex) where
  abbrev edges : List (DirectedEdge Vertex)
  edges = area_edges (used lsas)

  -- an edge out of the vertex that passes, in the graph
  record HasOut (test : Vertex → Bool) : Type 0 where
    edge : DirectedEdge Vertex
    is_edge : IsEdge t edge
    from : edge.from ≡ v
    passes : test edge.to ≡ true

  out_of : (test : Vertex → Bool) → has_end edges v test ≡ true → HasOut test
  out_of test some =
      let one = list_any-In (out_to v test) edges some in
      let parts = and_parts (is_same (one.0).from v) (test (one.0).to) one.2 in
      record {
        edge = one.0;
        is_edge = (graph.edges one.0).1 (Contains-from_In edges one.0 one.1);
        from = same_from_is_same (one.0).from v parts.0;
        passes = parts.1;
      }

  -- an edge out of it shows that it is a vertex of the graph
  at_vertex : (e : DirectedEdge Vertex) → IsEdge t e → e.from ≡ v → Contains t.vertices v
  at_vertex e (i, j, arc, at_from, at_to) from =
      let here : slice_get t.vertices i ≡ Some v = at_from ∙ ap (λ (w : Vertex). Some w) from in
      (i, slice_get_within t.vertices i v here, get_or_from_slice_get t.vertices i v v here)

  -- what is no vertex of the graph has no edge
  pub none_out : (Contains t.vertices v → ⊥) → (test : Vertex → Bool) → false ≡ has_end edges v test
  none_out absent test = by (has_end edges v test) refl
    where
      by : (b : Bool) → has_end edges v test ≡ b → false ≡ b
      by true is = let out = out_of test is in absurd (absent (at_vertex out.edge out.is_edge out.from))
      by false is = refl

  module _ (i : ℕ) (at : slice_get t.vertices i ≡ Some v) where
    -- an edge of the row, among those of the area
    there : (test : Vertex → Bool) → list_any test (map (end_at t) (row_at t i)) ≡ true → has_end edges v test ≡ true
    there test some =
        let one = list_any-In test (map (end_at t) (row_at t i)) some in
        let arc = map-In (end_at t) (row_at t i) one.0 one.1 in
        let o : Edge = arc.0 in
        let stands : Contains (row_at t i) o = Contains-from_In (row_at t i) o arc.1 in
        let within : o.to < length t.vertices =
        (graph.shape).in_range (record { from = i; to = o.to; cost = o.cost; link_data = o.link_data }) stands in
        let e : DirectedEdge Vertex = record { from = v; to = end_at t o; cost = o.cost; link_data = o.link_data } in
        let is_edge : IsEdge t e = (i, o.to, stands, at, slice_get-get_or t.vertices o.to (Router (record { 0 = 0 })) within) in
        In-list_any (out_to v test) edges e (In-from_Contains edges e ((graph.edges e).0 is_edge))
        (and_from (is_same v v) (test (end_at t o)) (is_same-from v v refl) (ap test arc.2 ∙ one.2))

    -- an edge of the area, in the row
    in_row : (test : Vertex → Bool) (e : DirectedEdge Vertex) → IsEdge t e → e.from ≡ v → test e.to ≡ true
        → list_any test (map (end_at t) (row_at t i)) ≡ true
    in_row test e (k, j, arc, at_from, at_to) from passes =
        let o : Edge = record { to = j; cost = e.cost; link_data = e.link_data } in
        let same : k ≡ i = one_number t graph.shape k i v (at_from ∙ ap (λ (w : Vertex). Some w) from) at in
        let stands : In (row_at t i) o = subst (λ (n : ℕ). In (row_at t n) o) same (In-from_Contains (row_at t k) o arc) in
        let to : end_at t o ≡ e.to = get_or_from_slice_get t.vertices j e.to (Router (record { 0 = 0 })) at_to in
        In-list_any test (map (end_at t) (row_at t i)) (end_at t o) (In-map (end_at t) (row_at t i) o stands) (ap test to ∙ passes)

    back : (test : Vertex → Bool) → has_end edges v test ≡ true → list_any test (map (end_at t) (row_at t i)) ≡ true
    back test some = let out = out_of test some in in_row test out.edge out.is_edge out.from out.passes

    -- the ends of the row are those of the edges out of the vertex
    pub row_ends : AreEnds edges v (map (end_at t) (row_at t i))
    row_ends test = same_answer (list_any test (map (end_at t) (row_at t i))) (has_end edges v test) (there test) (back test)

-- ---- some edge

abbrev always : Vertex → Bool
always w = true

or_not : (edges : List (DirectedEdge Vertex)) (v : Vertex) → has_end edges v always ≡ has_edge edges v
or_not edges v = λ i. list_any (λ e. both (is_out_of v e) i) edges
  where
    both : (b : Bool) → (b && true) ≡ b
    both true = refl
    both false = refl

not_empty : (t : Topology) (row : List Edge) → not (eqb (length row) 0) ≡ list_any always (map (end_at t) row)
not_empty t [] = refl
not_empty t (e ∷ es) = by (eqb (length (e ∷ es)) 0) refl
  where
    by : (b : Bool) → eqb (length (e ∷ es)) 0 ≡ b → not b ≡ true
    by true is = absurd (let none = eqb-true (length (e ∷ es)) 0 is in omega arith)
    by false is = refl

pub row_has : (lsas : List (List ℕ)) (t : Topology) → IsGraphOf lsas t → (v : Vertex) (i : ℕ) → slice_get t.vertices i ≡ Some v
    → (row : List Edge) → row ≡ row_at t i → not (eqb (length row) 0) ≡ has_edge (area_edges (used lsas)) v
row_has lsas t graph v i at row is =
    not_empty t row ∙ ap (λ (r : List Edge). list_any always (map (end_at t) r)) is
    ∙ row_ends lsas t graph v i at always ∙ or_not (area_edges (used lsas)) v

pub none_has : (lsas : List (List ℕ)) (t : Topology) → IsGraphOf lsas t → (v : Vertex) → (Contains t.vertices v → ⊥)
    → false ≡ has_edge (area_edges (used lsas)) v
none_has lsas t graph v absent = none_out lsas t graph v absent always ∙ or_not (area_edges (used lsas)) v
