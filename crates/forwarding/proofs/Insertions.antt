-- A member that comes to its place among members with keys in strict order.
use Rattle.std.proofs.Common.{◌≡◌, ℕ, zero, suc, ◌+◌, ◌<◌, ◌≤◌, Bool, true, false, cond, List, [], ◌∷◌, map, take, get_or, length, Result, Some, None, Ok, Err, refl, sym, ap, subst, ◌∙◌, arith}
use Rattle.std.specs.Prelude.{is_ok, is_some}
use Rattle.std.specs.List.{AllByRecursion, find, insert}
use Rattle.std.specs.List.Sorted.{IsBinarySearchResult, IsSearchInRange, IsSortedBy, IsStrictlySortedBy}
use Rattle.std.specs.Cmp.{IsTotalOrder}
use Rattle.std.specs.Ordering.{eq_by_cmp, is_lt, ordering_reverse}
use Rattle.std.specs.declared.cmp.Ordering.{Ordering}
use Rattle.std.specs.declared.cmp.Ordering.TheVariants.{Less, Greater}
use Rattle.std.proofs.lemmas.List.{get_or_default, map-id}
use Rattle.std.proofs.lemmas.List.Sorted.{searchable_from_sorted}
use Rattle.best_ways.proofs.SearchLemmas.{found_at, not_found}

-- ---- what is found

module _ {X : Type 0} (p : X → Bool) where
  -- a member that does not pass changes nothing
  pub find_insert_other : (xs : List X) (i : ℕ) (y : X) → p y ≡ false → find p (insert xs i y) ≡ find p xs
  find_insert_other [] zero y is = ap (λ b. cond b (Some y) None) is
  find_insert_other [] (suc i) y is = ap (λ b. cond b (Some y) None) is
  find_insert_other (x ∷ xs) zero y is = ap (λ b. cond b (Some y) (find p (x ∷ xs))) is
  find_insert_other (x ∷ xs) (suc i) y is = ap (λ rest. cond (p x) (Some x) rest) (find_insert_other xs i y is)

  pub none_before : (x : X) (xs : List X) → find p (x ∷ xs) ≡ None → (p x ≡ false) × (find p xs ≡ None)
  none_before x xs none = by (p x) refl none
    where
      by : (b : Bool) → p x ≡ b → cond b (Some x) (find p xs) ≡ None → (p x ≡ false) × (find p xs ≡ None)
      by true is given = absurd (cc)
      by false is given = (is, given)

  -- where none passes, one that comes and passes is found
  pub find_insert_same : (xs : List X) (i : ℕ) (y : X) → find p xs ≡ None → p y ≡ true → find p (insert xs i y) ≡ Some y
  find_insert_same [] zero y none is = ap (λ b. cond b (Some y) None) is
  find_insert_same [] (suc i) y none is = ap (λ b. cond b (Some y) None) is
  find_insert_same (x ∷ xs) zero y none is = ap (λ b. cond b (Some y) (find p (x ∷ xs))) is
  find_insert_same (x ∷ xs) (suc i) y none is =
      let parts = none_before x xs none in
      ap (λ b. cond b (Some x) (find p (insert xs i y))) parts.0 ∙ find_insert_same xs i y parts.1 is

-- ---- a search for the first that passes

module _ {X : Type 0} (p : X → Bool) where
  -- what is found passes
  pub passes_first : (xs : List X) (x : X) → find p xs ≡ Some x → p x ≡ true
  passes_first [] x found = absurd (cc)
  passes_first (y ∷ ys) x found = by (p y) refl found (passes_first ys x)
    where
      by : (b : Bool) → p y ≡ b → cond b (Some y) (find p ys) ≡ Some x → (find p ys ≡ Some x → p x ≡ true) → p x ≡ true
      by true is given rest = let same : y ≡ x = cc in subst (λ (z : X). p z ≡ true) same is
      by false is given rest = rest given

  -- one member more that does not pass
  pub none_more : (xs : List X) (i : ℕ) (d : X) → i < length xs → find p (take i xs) ≡ None → p (get_or xs i d) ≡ false
      → find p (take (i + 1) xs) ≡ None
  none_more [] i d lt none is = absurd (omega arith)
  none_more (x ∷ xs) zero d lt none is = ap (λ b. cond b (Some x) None) is
  none_more (x ∷ xs) (suc i) d lt none is =
      let parts = none_before p x (take i xs) none in
      let next : suc (i + 1) ≡ suc i + 1 = omega arith in
      subst (λ (n : ℕ). find p (take n (x ∷ xs)) ≡ None) next
      (ap (λ b. cond b (Some x) (find p (take (i + 1) xs))) parts.0 ∙ none_more xs i d (omega arith) parts.1 is)

  -- the first that does
  pub first_found : (xs : List X) (i : ℕ) (d : X) → i < length xs → find p (take i xs) ≡ None → p (get_or xs i d) ≡ true
      → find p xs ≡ Some (get_or xs i d)
  first_found [] i d lt none is = absurd (omega arith)
  first_found (x ∷ xs) zero d lt none is = ap (λ b. cond b (Some x) (find p xs)) is
  first_found (x ∷ xs) (suc i) d lt none is =
      let parts = none_before p x (take i xs) none in
      ap (λ b. cond b (Some x) (find p xs)) parts.0 ∙ first_found xs i d (omega arith) parts.1 is

-- ---- maps

pub map_insert : {X Y : Type 0} (f : X → Y) (xs : List X) (i : ℕ) (y : X) → map f (insert xs i y) ≡ insert (map f xs) i (f y)
map_insert f [] zero y = refl
map_insert f [] (suc i) y = refl
map_insert f (x ∷ xs) zero y = refl
map_insert f (x ∷ xs) (suc i) y = ap (λ rest. f x ∷ rest) (map_insert f xs i y)

-- ---- the order of keys

pub none_sorted : {K : Type 0} (R : K → K → Ordering) → IsStrictlySortedBy R []
unfolding IsStrictlySortedBy
none_sorted R = tt

module _ {X K : Type 0} {R : K → K → Ordering} (o : IsTotalOrder R) (key : X → K) where
  -- each key is below the next
  adjacent : (xs : List X) → IsStrictlySortedBy R (map key xs) → (k : ℕ) (d : X) → k + 1 < length xs
      → R (key (get_or xs k d)) (key (get_or xs (k + 1) d)) ≡ Less
  unfolding IsStrictlySortedBy
  adjacent [] s k d lt = absurd (omega arith)
  adjacent (x ∷ []) s k d lt = absurd (omega arith)
  adjacent (x ∷ y ∷ ys) s zero d lt = s.0.0
  adjacent (x ∷ y ∷ ys) s (suc k) d lt =
      let next : suc (k + 1) ≡ suc k + 1 = omega arith in
      subst (λ (n : ℕ). R (key (get_or (y ∷ ys) k d)) (key (get_or (x ∷ y ∷ ys) n d)) ≡ Less) next (adjacent (y ∷ ys) s.1 k d (omega arith))

  -- none of these keys is above the next
  never_falls : (xs : List X) → IsStrictlySortedBy R (map key xs) → IsSortedBy (λ a b. is_lt (R (key a) (key b))) xs
  never_falls xs s k d z lt =
      ap is_lt (o.antisymm (key (get_or xs (k + 1) d)) (key (get_or xs k d)) ∙ ap ordering_reverse (adjacent xs s k d lt))

  above_all : (k : K) (xs : List X) → ((j : ℕ) (d : X) → j < length xs → R (key (get_or xs j d)) k ≡ Greater)
      → AllByRecursion (λ y. R k y ≡ Less) (map key xs)
  above_all k [] above = tt
  above_all k (x ∷ xs) above = (
    o.antisymm k (key x) ∙ ap ordering_reverse (above 0 x (omega arith)),
    above_all k xs (λ j d lt. above (suc j) d (omega arith)),
  )

  below_more : (l : K) (xs : List X) (i : ℕ) (y : X) → AllByRecursion (λ k. R l k ≡ Less) (map key xs) → R l (key y) ≡ Less
      → AllByRecursion (λ k. R l k ≡ Less) (map key (insert xs i y))
  below_more l [] zero y all less = (less, tt)
  below_more l [] (suc i) y all less = (less, tt)
  below_more l (x ∷ xs) zero y all less = (less, all)
  below_more l (x ∷ xs) (suc i) y all less = (all.0, below_more l xs i y all.1 less)

  -- one that comes between those before it and those after it
  between : (xs : List X) (i : ℕ) (y : X) → IsStrictlySortedBy R (map key xs)
      → ((j : ℕ) (d : X) → j < length xs → j < i → R (key (get_or xs j d)) (key y) ≡ Less)
      → ((j : ℕ) (d : X) → i ≤ j → j < length xs → R (key (get_or xs j d)) (key y) ≡ Greater)
      → IsStrictlySortedBy R (map key (insert xs i y))
  unfolding IsStrictlySortedBy
  between [] zero y s low high = (tt, tt)
  between [] (suc i) y s low high = (tt, tt)
  between (x ∷ xs) zero y s low high = (above_all (key y) (x ∷ xs) (λ j d lt. high j d (omega arith) lt), s)
  between (x ∷ xs) (suc i) y s low high = (
    below_more (key x) xs i y s.0 (low 0 x (omega arith) (omega arith)),
    between xs i y s.1 (λ j d lt before. low (suc j) d (omega arith) (omega arith)) (λ j d after lt. high (suc j) d (omega arith) (omega arith)),
  )

  -- one that comes to the place where a search does not find its key
  pub sorted_inserted : (xs : List X) (i : ℕ) (y : X) → IsStrictlySortedBy R (map key xs)
      → IsBinarySearchResult (λ x. R (key x) (key y)) xs (Err i) → IsStrictlySortedBy R (map key (insert xs i y))
  sorted_inserted xs i y s parted =
      let parts = parted (searchable_from_sorted o key xs (key y) (never_falls xs s)) in
      between xs i y s (λ j d lt before. parts.0 j d (omega arith) before) (λ j d after lt. parts.1 j d after lt)

-- ---- a search by the key itself

module _ {K : Type 0} {R : K → K → Ordering} (o : IsTotalOrder R) where
  -- a member is there where a search finds it
  pub found_among : (ks : List K) (q : K) (r : Result ℕ ℕ) → IsStrictlySortedBy R ks → IsSearchInRange r (length ks)
      → IsBinarySearchResult (λ y. R y q) ks r → is_ok r ≡ is_some (find (λ y. eq_by_cmp R q y) ks)
  found_among ks q (Ok i) s within found =
      ap is_some (found_at o (λ x. x) q ks i (subst (λ (l : List K). IsStrictlySortedBy R l) (sym (map-id ks)) s) within found
      (get_or ks i q) (sym (get_or_default ks i (get_or ks i q) q within)))
  found_among ks q (Err i) s within parted =
      ap is_some (not_found o (λ x. x) q ks i (subst (λ (l : List K). IsStrictlySortedBy R l) (sym (map-id ks)) s) parted)
