-- What a binary search finds among members with keys in strict order.
use Rattle.std.proofs.Common.{◌≡◌, ℕ, zero, suc, ◌+◌, ◌<◌, ◌≤◌, false, cond, List, [], ◌∷◌, map, get_or, length, Some, None, Err, refl, sym, ap, subst}
use Rattle.std.proofs.Common.{◌∙◌, arith, ⊎_elim, ◌⊎◌, inl, inr}
use Rattle.std.specs.List.{AllByRecursion, HoldsAt, find}
use Rattle.std.specs.List.Sorted.{IsBinarySearchResult, IsSortedBy, IsStrictlySortedBy}
use Rattle.std.specs.Cmp.{IsTotalOrder}
use Rattle.std.specs.Ordering.{eq_by_cmp, is_eq, is_lt, ordering_reverse}
use Rattle.std.specs.declared.cmp.Ordering.{Ordering}
use Rattle.std.specs.declared.cmp.Ordering.TheVariants.{Less, Equal, Greater}
use Rattle.std.proofs.lemmas.Cmp.{alike_right, tied_back}
use Rattle.std.proofs.lemmas.List.Sorted.{searchable_from_sorted}

is_eq_reverse : (r : Ordering) → is_eq (ordering_reverse r) ≡ is_eq r
is_eq_reverse Less = refl
is_eq_reverse Equal = refl
is_eq_reverse Greater = refl

below_or_not : (k i : ℕ) → (k < i) ⊎ (i ≤ k)
below_or_not k zero = inr (omega arith)
below_or_not zero (suc i) = inl (omega arith)
below_or_not (suc k) (suc i) = ⊎_elim (λ l. inl (omega arith)) (λ l. inr (omega arith)) (below_or_not k i)

module _ {X K : Type 0} {R : K → K → Ordering} (o : IsTotalOrder R) (key : X → K) where
  -- a key that is below all others is below that of each member
  below_each : (k : K) (xs : List X) (i : ℕ) (d : X) → AllByRecursion (λ y. R k y ≡ Less) (map key xs) → i < length xs → R k (key (get_or xs i d)) ≡ Less
  below_each k [] i d a l = absurd (omega arith)
  below_each k (x ∷ xs) zero d a l = a.0
  below_each k (x ∷ xs) (suc i) d a l = below_each k xs i d a.1 (omega arith)

  -- no member is less than the one before it
  sorted_by_key : (xs : List X) → IsStrictlySortedBy R (map key xs) → IsSortedBy (λ a b. is_lt (R (key a) (key b))) xs
  unfolding IsStrictlySortedBy
  sorted_by_key [] s k d z l = absurd (omega arith)
  sorted_by_key (x ∷ xs) s zero d z l =
      ap is_lt (o.antisymm (key (get_or xs 0 d)) (key x) ∙ ap ordering_reverse (below_each (key x) xs 0 d s.0 (omega arith)))
  sorted_by_key (x ∷ xs) s (suc k) d z l =
      let next : suc (k + 1) ≡ suc k + 1 = omega arith in
      subst (λ (n : ℕ). is_lt (R (key (get_or (x ∷ xs) n d)) (key (get_or xs k d))) ≡ false) next (sorted_by_key xs s.1 k d (omega arith) (omega arith))

  module _ (q : K) where
    -- the member that ties with a key is the first one that does
    pub found_at : (xs : List X) (i : ℕ) → IsStrictlySortedBy R (map key xs) → i < length xs
        → HoldsAt (λ y. R (key y) q ≡ Equal) xs i → (x : X) → x ≡ get_or xs i x
        → Some x ≡ find (λ y. eq_by_cmp R q (key y)) xs
    unfolding IsStrictlySortedBy
    found_at [] i s l h x is = absurd (omega arith)
    found_at (y ∷ ys) zero s l h x is =
        ap Some is ∙ sym (ap (λ r. cond (is_eq r) (Some y) (find (λ y. eq_by_cmp R q (key y)) ys)) (tied_back o (key y) q (h x)))
    found_at (y ∷ ys) (suc i) s l h x is =
        let below = below_each (key y) ys i x s.0 (omega arith) in
        let before = sym (alike_right o (key (get_or ys i x)) q (key y) (h x)) ∙ below in
        found_at ys i s.1 (omega arith) (λ d. h d) x is
        ∙ sym (ap (λ r. cond (is_eq r) (Some y) (find (λ y. eq_by_cmp R q (key y)) ys)) (o.antisymm q (key y) ∙ ap ordering_reverse before))

    -- where no member ties with a key, none is found
    none_of : (xs : List X) → ((i : ℕ) (d : X) → i < length xs → is_eq (R (key (get_or xs i d)) q) ≡ false) → None ≡ find (λ y. eq_by_cmp R q (key y)) xs
    none_of [] h = refl
    none_of (y ∷ ys) h =
        none_of ys (λ i d l. h (suc i) d (omega arith))
        ∙ sym (ap (λ b. cond b (Some y) (find (λ y. eq_by_cmp R q (key y)) ys))
        (ap is_eq (o.antisymm q (key y)) ∙ is_eq_reverse (R (key y) q) ∙ h 0 y (omega arith)))

    -- what a binary search does not find is not there
    pub not_found : (xs : List X) (i : ℕ) → IsStrictlySortedBy R (map key xs)
        → IsBinarySearchResult (λ y. R (key y) q) xs (Err i) → None ≡ find (λ y. eq_by_cmp R q (key y)) xs
    not_found xs i s parted =
        let parts = parted (searchable_from_sorted o key xs q (sorted_by_key xs s)) in
        none_of xs (λ k d l. ⊎_elim (λ before. ap is_eq (parts.0 k d (omega arith) before)) (λ after. ap is_eq (parts.1 k d after l)) (below_or_not k i))
