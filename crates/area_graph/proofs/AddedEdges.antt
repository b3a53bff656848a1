-- The edges after more edges were added.
use Rattle.std.proofs.Common.{◌≡◌, ℕ, suc, ◌+◌, ◌<◌, eqb, Bool, true, false, cond, List, [], ◌∷◌, ◌++◌, map, length, take, get_or, sym, subst, ap, ◌∙◌}
use Rattle.std.proofs.Common.{append_assoc, arith}
use Rattle.std.specs.List.{filter, flat_map}
use Rattle.std.proofs.lemmas.List.{take_more, append-nil, map_push}
use Rattle.std.proofs.lemmas.List.Elements.{filter-append}
use Rattle.std.proofs.lemmas.Grind.{flat_map-append}
use Rattle.std.proofs.lemmas.List.{map-append}
use Rattle.area_graph.specs.declared.vertex.Vertex.{Vertex}
use Rattle.area_graph.specs.declared.edge.Edge.{Edge}
use Rattle.area_graph.specs.Paths.{DirectedEdge}
use Rattle.area_graph.specs.Topology.{Topology, row_at}
use Rattle.area_graph.specs.steps.Naming.{names_in}
use Rattle.area_graph.specs.steps.Drafts.{Adds, arc_of, edge_of, out_of, is_network_at, arc_back, both_arcs, returned_arcs, row_arcs, arcs_below}

-- no edges
pub adds_nothing : (t : Topology) → Adds [] t t
adds_nothing t = record { rows = λ i. sym (append-nil (row_at t i)) }

out_of-append : (i : ℕ) (xs ys : List (DirectedEdge ℕ)) → out_of i (xs ++ ys) ≡ out_of i xs ++ out_of i ys
out_of-append i xs ys =
    let from_it : DirectedEdge ℕ → Bool = λ a. eqb a.from i in
    ap (map edge_of) (filter-append from_it xs ys) ∙ map-append edge_of (filter from_it xs) (filter from_it ys)

-- some edges, and then others
pub Adds-then : (xs ys : List (DirectedEdge ℕ)) (old mid new : Topology) → Adds xs old mid → Adds ys mid new → Adds (xs ++ ys) old new
Adds-then xs ys old mid new a b = record {
  rows = λ i. b.rows i ∙ ap (λ (r : List Edge). r ++ out_of i ys) (a.rows i)
      ∙ append_assoc (row_at old i) (out_of i xs) (out_of i ys)
      ∙ ap (λ (r : List Edge). row_at old i ++ r) (sym (out_of-append i xs ys));
}

module _ (vertices : List Vertex) where
  -- one way or both ways of an edge
  pub Adds-one_way : (a : DirectedEdge ℕ) (old new : Topology) → is_network_at vertices a.to ≡ false → Adds (a ∷ []) old new
      → Adds (both_arcs vertices a) old new
  Adds-one_way a old new router added = subst (λ (b : Bool). Adds (cond b (a ∷ arc_back a ∷ []) (a ∷ [])) old new) (sym router) added

  pub Adds-both_ways : (a : DirectedEdge ℕ) (old mid new : Topology) → is_network_at vertices a.to ≡ true → Adds (a ∷ []) old mid
      → Adds (arc_back a ∷ []) mid new → Adds (both_arcs vertices a) old new
  Adds-both_ways a old mid new network one two =
      subst (λ (b : Bool). Adds (cond b (a ∷ arc_back a ∷ []) (a ∷ [])) old new) (sym network) (Adds-then (a ∷ []) (arc_back a ∷ []) old mid new one two)

  module _ (naming : List (List Edge)) where
    returned_arcs-append : (xs ys : List (DirectedEdge ℕ))
        → returned_arcs vertices naming (xs ++ ys) ≡ returned_arcs vertices naming xs ++ returned_arcs vertices naming ys
    returned_arcs-append xs ys =
        let named : DirectedEdge ℕ → Bool = λ a. names_in naming a.to a.from in
        ap (flat_map (both_arcs vertices)) (filter-append named xs ys) ∙ flat_map-append (both_arcs vertices) (filter named xs) (filter named ys)

    -- one edge: the other end names the first, or it does not
    pub adds_not_returned : (a : DirectedEdge ℕ) (t : Topology) → names_in naming a.to a.from ≡ false → Adds (returned_arcs vertices naming (a ∷ [])) t t
    adds_not_returned a t free = subst (λ (b : Bool). Adds (flat_map (both_arcs vertices) (cond b (a ∷ []) [])) t t) (sym free) (adds_nothing t)

    pub adds_returned : (a : DirectedEdge ℕ) (old new : Topology) → names_in naming a.to a.from ≡ true → Adds (both_arcs vertices a) old new
        → Adds (returned_arcs vertices naming (a ∷ [])) old new
    adds_returned a old new named added =
        subst (λ (b : Bool). Adds (flat_map (both_arcs vertices) (cond b (a ∷ []) [])) old new) (sym named)
        (subst (λ (arcs : List (DirectedEdge ℕ)). Adds arcs old new) (sym (append-nil (both_arcs vertices a))) added)

    -- one more edge of a vertex
    pub returned_more : (from : ℕ) (row : List Edge) (i : ℕ) (d : Edge) (old mid new : Topology) → i < length row
        → Adds (returned_arcs vertices naming (map (arc_of from) (take i row))) old mid
        → Adds (returned_arcs vertices naming (arc_of from (get_or row i d) ∷ [])) mid new
        → Adds (returned_arcs vertices naming (map (arc_of from) (take (i + 1) row))) old new
    returned_more from row i d old mid new lt a b =
        let e = get_or row i d in
        let whole : map (arc_of from) (take (i + 1) row) ≡ map (arc_of from) (take i row) ++ arc_of from e ∷ [] =
        ap (map (arc_of from)) (take_more row i d lt) ∙ map_push (arc_of from) (take i row) e in
        subst (λ (arcs : List (DirectedEdge ℕ)). Adds (returned_arcs vertices naming arcs) old new) (sym whole)
        (subst (λ (arcs : List (DirectedEdge ℕ)). Adds arcs old new)
        (sym (returned_arcs-append (map (arc_of from) (take i row)) (arc_of from e ∷ [])))
        (Adds-then (returned_arcs vertices naming (map (arc_of from) (take i row))) (returned_arcs vertices naming (arc_of from e ∷ [])) old mid new a b))

    -- one more vertex
    pub arcs_more : (n : ℕ) (old mid new : Topology) → Adds (arcs_below vertices naming n) old mid → Adds (row_arcs vertices naming n) mid new
        → Adds (arcs_below vertices naming (n + 1)) old new
    arcs_more n old mid new a b =
        let next : n + 1 ≡ suc n = omega arith in
        subst (λ (k : ℕ). Adds (arcs_below vertices naming k) old new) (sym next)
        (Adds-then (arcs_below vertices naming n) (row_arcs vertices naming n) old mid new a b)
