-- The vertices that rows name, in order.
use Rattle.std.proofs.Common.{◌≡◌, ℕ, ◌+◌, ◌<◌, ◌≤◌, ◌||◌, eqb, subst, Bool, true, false, List, [], ◌∷◌, ◌++◌, length, map, get_or, refl, sym, ap, ◌∙◌, arith, ⊎_elim}
use Rattle.std.proofs.Common.{Result, Ok, Err}
use Rattle.std.specs.Prelude.{MatchResult, is_ok}
use Rattle.std.specs.List.{list_any}
use Rattle.std.specs.List.Sorted.{IsBinarySearchResult, IsNonDecreasing, IsPermutation, IsSearchInRange}
use Rattle.std.specs.Ordering.{nat_cmp}
use Rattle.std.proofs.lemmas.Bool.{cases_lt, cases_eq, eq-eqb, ne_eqb}
use Rattle.std.proofs.lemmas.Grind.{get_or_default_zero}
use Rattle.std.proofs.lemmas.List.{get_or_append_left, get_or_push, length_push, map_push, length-map}
use Rattle.std.proofs.lemmas.List.Folds.{list_any_at, list_any_none}
use Rattle.std.proofs.lemmas.List.Sorted.{list_any-IsPermutation, searched}
use Rattle.area_graph.specs.declared.edge.Edge.{Edge}
use Rattle.area_graph.specs.steps.Naming.{names_in, row_in}
use Rattle.area_graph.specs.steps.BackLinks.{AreBackLinks, AreTargets, HasTargets, HaveTargets, targets_of}

-- a short row has none
pub none_of_short : (row : List Edge) (targets : List ℕ) → length row ≤ 16 → HasTargets row targets
none_of_short row targets short = λ long. absurd (omega arith)

-- ---- one more row

pub no_rows : (rows : List (List Edge)) → HaveTargets 0 rows []
no_rows rows = record { each = refl; here = λ i lt. absurd (omega arith) }

module _ (rows : List (List Edge)) (n : ℕ) (old : List (List ℕ)) (row : List Edge) (one : List ℕ)
    (before : HaveTargets n rows old) (at : row ≡ row_in rows n) (has : HasTargets row one) where
  pub one_more : (new : List (List ℕ)) → new ≡ old ++ one ∷ [] → HaveTargets (n + 1) rows new
  one_more new is = record {
    each = ap length is ∙ length_push old one ∙ ap (λ k. k + 1) before.each;
    here = λ i lt. ⊎_elim
        (λ (less : i < n). subst (λ ts. HasTargets (row_in rows i) ts) (let within : i < length old = omega (arith, before.each) in
        sym (ap (λ ts. get_or ts i []) is ∙ get_or_append_left old (one ∷ []) [] i within)) (before.here i less))
        (λ (ge : n ≤ i). (let same : n ≡ i = omega arith in
        subst (λ ts. HasTargets (row_in rows i) ts) (sym (ap (λ ts. get_or ts i []) is ∙ get_or_push old one [] i (before.each ∙ same)))
        (subst (λ k. HasTargets (row_in rows k) one) same (subst (λ r. HasTargets r one) at has))))
        (cases_lt i n);
  }

-- ---- a vertex among those that a row names

module _ (targets : List ℕ) (vertex : ℕ) where
  pub among : (i : ℕ) → i < length targets → get_or targets i 0 ≡ vertex → list_any (λ t. eqb t vertex) targets ≡ true
  among i lt is = list_any_at (λ t. eqb t vertex) targets i 0 lt (eq-eqb _ _ is)

  pub not_among : (place : ℕ) → ((k : ℕ) → k < place → get_or targets k 0 < vertex)
      → ((k : ℕ) → place ≤ k → k < length targets → vertex < get_or targets k 0) → list_any (λ t. eqb t vertex) targets ≡ false
  not_among place below above =
      list_any_none (λ t. eqb t vertex) targets
      (λ k d lt. ⊎_elim
      (λ less. ne_eqb _ _ (λ e. absurd (let b = below k less in let z : get_or targets k d ≡ get_or targets k 0 = get_or_default_zero targets k d lt in omega arith)))
      (λ ge. ne_eqb _ _ (λ e. absurd (let a = above k ge lt in let z : get_or targets k d ≡ get_or targets k 0 = get_or_default_zero targets k d lt in omega arith)))
      (cases_lt k place))

any_targets : (row : List Edge) (vertex : ℕ) → list_any (λ t. eqb t vertex) (targets_of row) ≡ list_any (λ e. eqb e.to vertex) row
any_targets [] vertex = refl
any_targets (e ∷ es) vertex = ap (λ b. eqb e.to vertex || b) (any_targets es vertex)

-- what is among the vertices that a long row names
pub named_among : (row : List Edge) (targets : List ℕ) (vertex : ℕ) → AreTargets row targets
    → list_any (λ t. eqb t vertex) targets ≡ list_any (λ e. eqb e.to vertex) row
named_among row targets vertex are =
    sym (list_any-IsPermutation (λ t. eqb t vertex) (targets_of row) targets are.same) ∙ any_targets row vertex

-- what a binary search shows
pub found_among : (targets : List ℕ) (vertex : ℕ) (r : Result ℕ ℕ) → IsNonDecreasing targets → IsSearchInRange r (length targets)
    → IsBinarySearchResult (λ y. nat_cmp y vertex) targets r → (found : Bool) → found ≡ is_ok r → found ≡ list_any (λ t. eqb t vertex) targets
found_among targets vertex r up within search found is = by r refl (searched targets vertex r search (λ i j le lt. up i j 0 le lt))
  where
    by : (s : Result ℕ ℕ) → r ≡ s → MatchResult s (λ i. (i < length targets) × (get_or targets i 0 ≡ vertex))
        (λ i. (i ≤ length targets) × ((k : ℕ) → k < i → get_or targets k 0 < vertex)
        × ((k : ℕ) → i ≤ k → k < length targets → vertex < get_or targets k 0)) → found ≡ list_any (λ t. eqb t vertex) targets
    by (Ok i) e m = is ∙ ap is_ok e ∙ sym (among targets vertex i m.0 m.1)
    by (Err i) e m = is ∙ ap is_ok e ∙ sym (not_among targets vertex i m.1 m.2)
