-- The rows of the graph of an area after a change of the cost of one interface.
use Rattle.std.proofs.Common.{◌≡◌, ◌≢◌, ℕ, ◌+◌, ◌≤◌, Bool, true, false, cond, eqb, List, [], ◌∷◌, ◌++◌, map, Option, None, Some, refl, sym, ap}
use Rattle.std.proofs.Common.{◌∙◌, arith, inl, inr, ⊎_elim, true≢false}
use Rattle.std.specs.Prelude.{◌&&◌, ◌||◌, slice_get}
use Rattle.std.specs.List.{cons_option, count_by, filter, filter_map, fold, list_any, position}
use Rattle.std.specs.Option.{option_map}
use Rattle.std.proofs.lemmas.Bool.{eq-eqb, eqb-true}
use Rattle.std.proofs.lemmas.List.Sums.{sum_by-cons}
use Rattle.std.proofs.lemmas.List.{map-append}
use Rattle.lsa_codec.specs.declared.address.Addr.{Addr}
use Rattle.indexmap.specs.IndexSet.{insert_key}
use Rattle.area_graph.specs.declared.cost_change.CostChange.{CostChange}
use Rattle.area_graph.specs.declared.edge.Edge.{Edge}
use Rattle.area_graph.specs.declared.vertex.Vertex.{Vertex}
use Rattle.area_graph.specs.Vertex.{is_same}
use Rattle.area_graph.specs.Paths.{DirectedEdge}
use Rattle.area_graph.specs.Rows.{each_once, is_out_of, numbered, same_edge}
use Rattle.area_graph.specs.steps.CostRows.{leads_to, with_cost}
use Rattle.area_graph.proofs.AllPathsLemmas.{is_same-from, same_from_is_same}
use Rattle.area_graph.proofs.ChangedEdges.{priced, router}
use Rattle.area_graph.proofs.EachOnce.{Contains-each_once, edge_is, edge_same}
use Rattle.area_graph.proofs.MemberLemmas.{In, In-from_Contains, Some-same, In-cases}
use Rattle.area_graph.proofs.VertexNumbers.{found}

-- ---- an edge that occurs at one place alone

counted : {X : Type 0} (p : X → Bool) (z : X) (xs : List X) (b : Bool) → p z ≡ b → count_by p (z ∷ xs) ≡ cond b 1 0 + count_by p xs
counted p z xs b is = sum_by-cons (λ x. cond (p x) 1 0) z xs ∙ ap (λ (t : Bool). cond t 1 0 + count_by p xs) is

none_counted : {X : Type 0} (p : X → Bool) (xs : List X) (x : X) → In xs x → p x ≡ true → 1 ≤ count_by p xs
none_counted p [] x i t = absurd i
none_counted p (z ∷ xs) x (inl q) t =
    let size : count_by p (z ∷ xs) ≡ 1 + count_by p xs = counted p z xs true (ap p q ∙ t) in
    omega arith
none_counted p (z ∷ xs) x (inr i) t =
    let more = none_counted p xs x i t in
    let size : count_by p (z ∷ xs) ≡ cond (p z) 1 0 + count_by p xs = counted p z xs (p z) refl in
    omega arith

only_one : {X : Type 0} (p : X → Bool) (xs : List X) → count_by p xs ≤ 1 → (x y : X) → In xs x → In xs y → p x ≡ true → p y ≡ true → x ≡ y
only_one p [] few x y i j s t = absurd i
only_one p (z ∷ xs) few x y (inl q) (inl r) s t = sym q ∙ r
only_one p (z ∷ xs) few x y (inl q) (inr j) s t =
    let one = none_counted p xs y j t in
    let size : count_by p (z ∷ xs) ≡ 1 + count_by p xs = counted p z xs true (ap p q ∙ s) in
    absurd (omega arith)
only_one p (z ∷ xs) few x y (inr i) (inl r) s t =
    let one = none_counted p xs x i s in
    let size : count_by p (z ∷ xs) ≡ 1 + count_by p xs = counted p z xs true (ap p r ∙ t) in
    absurd (omega arith)
only_one p (z ∷ xs) few x y (inr i) (inr j) s t =
    let size : count_by p (z ∷ xs) ≡ cond (p z) 1 0 + count_by p xs = counted p z xs (p z) refl in
    only_one p xs (omega arith) x y i j s t

-- ---- edges that are mapped to edges, different ones to different ones

module _ (h : Edge → Edge) (whole : List Edge) (apart : (x y : Edge) → In whole x → In whole y → same_edge (h x) (h y) ≡ same_edge x y) where
  same_any : (x : Edge) → In whole x → (kept : List Edge) → ((y : Edge) → In kept y → In whole y)
      → list_any (same_edge (h x)) (map h kept) ≡ list_any (same_edge x) kept
  same_any x i [] within = refl
  same_any x i (y ∷ kept) within =
      λ n. (let first = apart x y i (within y (inl refl)) in first n || same_any x i kept (λ z j. within z (inr j)) n)

  each_once-mapped : (kept xs : List Edge) → ((y : Edge) → In kept y → In whole y) → ((y : Edge) → In xs y → In whole y)
      → fold (insert_key same_edge) (map h kept) (map h xs) ≡ map h (fold (insert_key same_edge) kept xs)
  each_once-mapped kept [] within rest = refl
  each_once-mapped kept (x ∷ xs) within rest =
      ap (λ (ks : List Edge). fold (insert_key same_edge) ks (map h xs))
      (ap (λ (b : Bool). cond b (map h kept) (map h kept ++ h x ∷ [])) (same_any x (rest x (inl refl)) kept within) ∙ by (list_any (same_edge x) kept))
      ∙ each_once-mapped (insert_key same_edge kept x) xs (grown (list_any (same_edge x) kept)) (λ y i. rest y (inr i))
    where
      by : (b : Bool) → cond b (map h kept) (map h kept ++ h x ∷ []) ≡ map h (cond b kept (kept ++ x ∷ []))
      by true = refl
      by false = sym (map-append h kept (x ∷ []))

      grown : (b : Bool) (y : Edge) → In (cond b kept (kept ++ x ∷ [])) y → In whole y
      grown true y i = within y i
      grown false y i = ⊎_elim (λ j. within y j) (λ j. rest y (⊎_elim (λ q. inl q) (λ none. absurd none) j)) (In-cases kept (x ∷ []) y i)

-- ---- a row in which at most one edge is over the interface

module _ (to : ℕ) (link_data : Addr) (cost : ℕ) where
  abbrev change_of : Edge → Edge
  change_of e = with_cost to link_data cost e

  abbrev costing : Edge → Bool → Edge
  costing e b = record { to = e.to; cost = cond b cost e.cost; link_data = e.link_data }

  module _ (whole : List Edge) (few : count_by (leads_to to link_data) whole ≤ 1) where
    pub as_apart : (x y : Edge) → In whole x → In whole y → same_edge (change_of x) (change_of y) ≡ same_edge x y
    as_apart x y i j = by (leads_to to link_data x) (leads_to to link_data y) refl refl
      where
        different : (a b : Edge) (s t : Bool) → leads_to to link_data a ≡ s → leads_to to link_data b ≡ t → s ≢ t → same_edge a b ≡ false
        different a b s t is_s is_t other = cases (same_edge a b) refl
          where
            cases : (c : Bool) → same_edge a b ≡ c → c ≡ false
            cases false is = refl
            cases true is = absurd (other (sym is_s ∙ ap (leads_to to link_data) (edge_is a b is) ∙ is_t))

        by : (s t : Bool) → leads_to to link_data x ≡ s → leads_to to link_data y ≡ t → same_edge (change_of x) (change_of y) ≡ same_edge x y
        by true true p q =
            let same = only_one (leads_to to link_data) whole few x y i j p q in
            edge_same (change_of x) (change_of y) (ap change_of same) ∙ sym (edge_same x y same)
        by true false p q =
            different (change_of x) (change_of y) true false p q true≢false ∙ sym (different x y true false p q true≢false)
        by false true p q =
            different (change_of x) (change_of y) false true p q (λ e. true≢false (sym e))
            ∙ sym (different x y false true p q (λ e. true≢false (sym e)))
        by false false p q = λ n. same_edge (costing x (p n)) (costing y (q n))

  pub once-with_cost : (row : List Edge) → count_by (leads_to to link_data) (each_once same_edge row) ≤ 1
      → each_once same_edge (map change_of row) ≡ map change_of (each_once same_edge row)
  once-with_cost row few =
      let whole = each_once same_edge row in
      let there : (e : Edge) → In row e → In whole e = λ e i. In-from_Contains whole e (Contains-each_once row e i) in
      each_once-mapped change_of row (λ x y i j. as_apart whole few x y (there x i) (there y j)) [] row (λ y none. absurd none) (λ y i. i)

-- ---- the rows of the area

abbrev making : Addr → ℕ → ℕ → Edge
making link_data cost to = record { to = to; cost = cost; link_data = link_data }

module _ (change : CostChange) (vs : List Vertex) where
  number_same : (t : Vertex) (j k : ℕ) → position (is_same t) vs ≡ Some j → position (is_same change.to) vs ≡ Some k → is_same change.to t ≡ eqb j k
  number_same t j k at_j at_k = by (is_same change.to t) (eqb j k) refl refl
    where
      by : (s e : Bool) → is_same change.to t ≡ s → eqb j k ≡ e → s ≡ e
      by true true p q = refl
      by false false p q = refl
      by true false p q =
          let same : t ≡ change.to = sym (same_from_is_same change.to t p) in
          let equal : j ≡ k = Some-same (sym at_j ∙ ap (λ (v : Vertex). position (is_same v) vs) same ∙ at_k) in
          sym (eq-eqb j k equal) ∙ q
      by false true p q =
          let equal : j ≡ k = eqb-true j k q in
          let same : change.to ≡ t =
          Some-same (sym (found vs change.to k at_k).1 ∙ ap (slice_get vs) (sym equal) ∙ (found vs t j at_j).1) in
          sym p ∙ is_same-from change.to t same

  module _ (k : ℕ) (at : position (is_same change.to) vs ≡ Some k) where
    abbrev costed : Edge → Edge
    costed e = with_cost k change.link_data change.cost e

    abbrev outs : List (DirectedEdge Vertex) → List (DirectedEdge Vertex)
    outs es = filter (is_out_of (router change)) es

    one_numbered : (e : DirectedEdge Vertex) → is_same e.from (router change) ≡ true → numbered vs (priced change e) ≡ option_map costed (numbered vs e)
    one_numbered e from = by (position (is_same e.to) vs) refl
      where
        by : (o : Option ℕ) → position (is_same e.to) vs ≡ o
            → option_map (making e.link_data (priced change e).cost) o ≡ option_map costed (option_map (making e.link_data e.cost) o)
        by None is = refl
        by (Some j) is =
            ap (λ (b : Bool). Some (making e.link_data (cond (b && (is_same change.to e.to && eqb e.link_data.0 change.link_data.0)) change.cost e.cost) j)) from
            ∙ ap (λ (b : Bool). Some (making e.link_data (cond (b && eqb e.link_data.0 change.link_data.0) change.cost e.cost) j)) (number_same e.to j k is at)

    pub router_row : (es : List (DirectedEdge Vertex)) → filter_map (numbered vs) (filter (is_out_of (router change)) (map (priced change) es))
        ≡ map costed (filter_map (numbered vs) (filter (is_out_of (router change)) es))
    router_row [] = refl
    router_row (e ∷ es) = by (is_same e.from (router change)) refl (router_row es)
      where
        mapped : (o : Option Edge) → cons_option (option_map costed o) (map costed (filter_map (numbered vs) (outs es)))
            ≡ map costed (cons_option o (filter_map (numbered vs) (outs es)))
        mapped None = refl
        mapped (Some x) = refl

        by : (b : Bool) → is_same e.from (router change) ≡ b → filter_map (numbered vs) (outs (map (priced change) es)) ≡ map costed (filter_map (numbered vs) (outs es))
            → filter_map (numbered vs) (cond b (priced change e ∷ outs (map (priced change) es)) (outs (map (priced change) es))) ≡ map costed (filter_map (numbered vs) (cond b (e ∷ (outs es)) (outs es)))
        by false is rest = rest
        by true is rest = (λ i. cons_option (one_numbered e is i) (rest i)) ∙ mapped (numbered vs e)

  pub other_row : (u : Vertex) → is_same u (router change) ≡ false → (es : List (DirectedEdge Vertex))
      → filter (is_out_of u) (map (priced change) es) ≡ filter (is_out_of u) es
  other_row u other [] = refl
  other_row u other (e ∷ es) = by (is_same e.from u) refl (other_row u other es)
    where
      by : (b : Bool) → is_same e.from u ≡ b → filter (is_out_of u) (map (priced change) es) ≡ filter (is_out_of u) es
          → cond b (priced change e ∷ filter (is_out_of u) (map (priced change) es)) (filter (is_out_of u) (map (priced change) es)) ≡ cond b (e ∷ filter (is_out_of u) es) (filter (is_out_of u) es)
      by false is rest = rest
      by true is rest =
          let apart : is_same e.from (router change) ≡ false = ap (λ (v : Vertex). is_same v (router change)) (same_from_is_same e.from u is) ∙ other in
          λ i. (let f : DirectedEdge Vertex = record {
            from = e.from;
            to = e.to;
            cost = cond (apart i && (is_same change.to e.to && eqb e.link_data.0 change.link_data.0)) change.cost e.cost;
            link_data = e.link_data;
          } in f) ∷ rest i
