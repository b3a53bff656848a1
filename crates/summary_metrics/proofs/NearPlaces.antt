-- What is found among prefixes in rising order, by their neighbors, and among the elements that go with
-- them.
use Rattle.std.proofs.Common.{◌≡◌, ℕ, zero, suc, ◌+◌, ◌<◌, ◌≤◌, Bool, true, false, cond, List, [], ◌∷◌, map, get_or, length, Option, Some, None, Result, Ok, Err, IfErr, refl, sym, ap, subst, ◌∙◌, arith}
use Rattle.std.specs.List.{AllByRecursion, HoldsAt, find}
use Rattle.std.specs.List.Sorted.{IsBinarySearchResult, IsStrictlySortedBy}
use Rattle.std.specs.Bool.{OnTrue}
use Rattle.std.specs.Cmp.{IsTotalOrder}
use Rattle.std.specs.Map.{lookup}
use Rattle.std.specs.Option.{option_map}
use Rattle.std.specs.Ordering.{eq_by_cmp, is_eq, ordering_reverse}
use Rattle.std.specs.declared.cmp.Ordering.{Ordering}
use Rattle.std.specs.declared.cmp.Ordering.TheVariants.{Less, Equal}
use Rattle.std.proofs.lemmas.Cmp.{tied_itself}
use Rattle.std.proofs.lemmas.List.{get_or-map, length-map}
use Rattle.lsa_codec.specs.Order.{prefix_cmp}
use Rattle.lsa_codec.specs.Prefix.{Net}
use Rattle.lsa_codec.proofs.OrderLemmas.{prefix_total}
use Rattle.best_ways.proofs.SearchLemmas.{found_at, not_found}

map_same : {X : Type 0} (xs : List X) → map (λ x. x) xs ≡ xs
map_same [] = refl
map_same (x ∷ xs) = ap (λ l. x ∷ l) (map_same xs)

pub on_true : {P Q : Type 0} (b : Bool) → OnTrue b P → (P → Q) → OnTrue b Q
on_true true h f = f h
on_true false h f = tt

-- ---- a key between its neighbors

module _ {K : Type 0} {R : K → K → Ordering} (o : IsTotalOrder R) (q : K) where
  none_above : (xs : List K) → AllByRecursion (λ y. R q y ≡ Less) xs → find (eq_by_cmp R q) xs ≡ None
  none_above [] a = refl
  none_above (x ∷ xs) a = ap (λ r. cond (is_eq r) (Some x) (find (eq_by_cmp R q) xs)) a.0 ∙ none_above xs a.1

  above_too : (x : K) (xs : List K) → R q x ≡ Less → AllByRecursion (λ y. R x y ≡ Less) xs → AllByRecursion (λ y. R q y ≡ Less) xs
  above_too x [] h a = tt
  above_too x (y ∷ ys) h a = (o.trans q x y h a.0, above_too x ys h a.1)

  above_at : (x : K) (xs : List K) (k : ℕ) (d : K) → AllByRecursion (λ y. R x y ≡ Less) xs → k < length xs → R x (get_or xs k d) ≡ Less
  above_at x [] k d a l = absurd (omega arith)
  above_at x (y ∷ ys) zero d a l = a.0
  above_at x (y ∷ ys) (suc k) d a l = above_at x ys k d a.1 (omega arith)

  skip : (x : K) (xs : List K) → R x q ≡ Less → find (eq_by_cmp R q) xs ≡ None → find (eq_by_cmp R q) (x ∷ xs) ≡ None
  skip x xs h rest = ap (λ r. cond (is_eq r) (Some x) (find (eq_by_cmp R q) xs)) (o.antisymm q x ∙ ap ordering_reverse h) ∙ rest

  pub between : (xs : List K) (i : ℕ) → IsStrictlySortedBy R xs → i ≤ length xs
      → ((k : ℕ) → k + 1 ≡ i → HoldsAt (λ y. R y q ≡ Less) xs k) → (i < length xs → HoldsAt (λ y. R q y ≡ Less) xs i)
      → find (eq_by_cmp R q) xs ≡ None
  unfolding IsStrictlySortedBy
  between [] i s l after before = refl
  between (x ∷ xs) zero s l after before =
      let h : R q x ≡ Less = before (omega arith) x in
      none_above (x ∷ xs) (h, above_too x xs h s.0)
  between (x ∷ xs) (suc zero) s l after before =
      skip x xs (after 0 (omega arith) x)
      (between xs zero s.1 (omega arith) (λ k e. absurd (omega arith)) (λ l d. before (omega arith) d))
  between (x ∷ xs) (suc (suc i)) s l after before =
      skip x xs (o.trans x (get_or xs i x) q (above_at x xs i x s.0 (omega arith)) (after (suc i) (omega arith) x))
      (between xs (suc i) s.1 (omega arith) (λ k e d. after (suc k) (omega arith) d) (λ l d. before (omega arith) d))

-- ---- a search

module _ (q : Net) (xs : List Net) (s : IsStrictlySortedBy prefix_cmp xs) where
  missing_by_search : (i : ℕ) → IsBinarySearchResult (λ y. prefix_cmp y q) xs (Err i) → find (eq_by_cmp prefix_cmp q) xs ≡ None
  missing_by_search i parted =
      sym (not_found prefix_total (λ y. y) q xs i (subst (IsStrictlySortedBy prefix_cmp) (sym (map_same xs)) s) parted)

  pub missing_unless_found : (r : Result ℕ ℕ) → IsBinarySearchResult (λ y. prefix_cmp y q) xs r
      → IfErr r (λ i. find (eq_by_cmp prefix_cmp q) xs ≡ None)
  missing_unless_found (Ok i) h = tt
  missing_unless_found (Err i) h = missing_by_search i h

-- ---- the elements that go with the prefixes

module _ {X : Type 0} (net : X → Net) (xs : List X) (nets : List Net) (are : nets ≡ map net xs) (q : Net) where
  abbrev it : X → Bool
  it y = eq_by_cmp prefix_cmp q (net y)

  pub same_length : length nets ≡ length xs
  same_length = ap length are ∙ length-map xs net

  pub found_by_net : (i : ℕ) (x : X) → IsStrictlySortedBy prefix_cmp nets → i < length nets → HoldsAt (λ n. n ≡ q) nets i → x ≡ get_or xs i x
      → Some x ≡ find it xs
  found_by_net i x s l at is =
      let within : i < length xs = subst (λ (n : ℕ). i < n) same_length l in
      let tied : HoldsAt (λ y. prefix_cmp (net y) q ≡ Equal) xs i =
      λ d. ap (λ n. prefix_cmp n q) (sym (get_or-map net xs i d (net d) within) ∙ sym (ap (λ ns. get_or ns i (net d)) are) ∙ at (net d))
      ∙ tied_itself prefix_total q in
      found_at prefix_total net q xs i (subst (IsStrictlySortedBy prefix_cmp) are s) within tied x is

  find_map : (ys : List X) → find (eq_by_cmp prefix_cmp q) (map net ys) ≡ option_map net (find it ys)
  find_map [] = refl
  find_map (y ∷ ys) = by (it y) (find_map ys)
    where
      by : (b : Bool) → find (eq_by_cmp prefix_cmp q) (map net ys) ≡ option_map net (find it ys) → cond b (Some (net y)) (find (eq_by_cmp prefix_cmp q) (map net ys)) ≡ option_map net (cond b (Some y) (find it ys))
      by true rest = refl
      by false rest = rest

  none_mapped : (m : Option X) → option_map net m ≡ None → m ≡ None
  none_mapped None h = refl
  none_mapped (Some y) h = absurd cc

  pub missing_by_net : find (eq_by_cmp prefix_cmp q) nets ≡ None → find it xs ≡ None
  missing_by_net h = none_mapped (find it xs) (sym (find_map xs) ∙ sym (ap (find (eq_by_cmp prefix_cmp q)) are) ∙ h)

-- ---- lists by prefixes

module _ {X : Type 0} (q : Net) where
  pub lookup_found : (es : List (Net × X)) → lookup (eq_by_cmp prefix_cmp q) es ≡ option_map (λ e. e.1) (find (λ e. eq_by_cmp prefix_cmp q e.0) es)
  lookup_found [] = refl
  lookup_found (e ∷ es) = by (eq_by_cmp prefix_cmp q e.0) (lookup_found es)
    where
      by : (b : Bool) → lookup (eq_by_cmp prefix_cmp q) es ≡ option_map (λ e. e.1) (find (λ e. eq_by_cmp prefix_cmp q e.0) es)
          → cond b (Some e.1) (lookup (eq_by_cmp prefix_cmp q) es) ≡ option_map (λ e. e.1) (cond b (Some e) (find (λ e. eq_by_cmp prefix_cmp q e.0) es))
      by true rest = refl
      by false rest = rest
