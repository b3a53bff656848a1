-- `rising` is the one list in strict order with the members of a list.
use Rattle.std.proofs.Common.{◌≡◌, Bool, true, false, List, [], ◌∷◌, ◌++◌, refl, sym, ap, ◌∙◌}
use Rattle.std.specs.Prelude.{◌||◌}
use Rattle.std.specs.List.{AllByRecursion, list_any, dedup, dedup_from}
use Rattle.std.specs.List.Sorted.{IsStrictlySortedBy, IsSorted, IsPermutation}
use Rattle.std.specs.BTreeSet.{insert_key}
use Rattle.std.specs.Cmp.{IsTotalOrder, Equal-is}
use Rattle.std.specs.Ordering.{eq_by_cmp, match_ordering, is_eq, ordering_reverse}
use Rattle.std.specs.declared.cmp.Ordering.{Ordering}
use Rattle.std.specs.declared.cmp.Ordering.TheVariants.{Less, Equal, Greater}
use Rattle.std.proofs.lemmas.Cmp.{alike_right}
use Rattle.std.proofs.lemmas.Map.Lookups.{CmpEqualImpliesEq, btree_set_from_contains}
use Rattle.std.proofs.lemmas.List.Folds.{list_any-append}
use Rattle.std.proofs.lemmas.List.Kept.{IsStrictlySortedBy-dedup}
use Rattle.std.proofs.lemmas.List.Sorted.{list_any-IsPermutation}
use Rattle.std.proofs.lemmas.Bool.{cond_both}
use Rattle.area_graph.specs.Rising.{rising}

or_swap : (a b c : Bool) → (a || (b || c)) ≡ (b || (a || c))
or_swap true true c = refl
or_swap true false c = refl
or_swap false b c = refl

or_twice : (a c : Bool) → (a || c) ≡ (a || (a || c))
or_twice true c = refl
or_twice false c = refl

module _ {K : Type 0} {R : K → K → Ordering} (o : IsTotalOrder R) where
  all_insert : (P : K → Type 0) (ks : List K) (k : K) → AllByRecursion P ks → P k → AllByRecursion P (insert_key R ks k)
  all_insert P [] k a p = (p, tt)
  all_insert P (x ∷ xs) k a p = by (R k x) (all_insert P xs k a.1 p)
    where
      by : (r : Ordering) → AllByRecursion P (insert_key R xs k) → AllByRecursion P (match_ordering r (k ∷ x ∷ xs) (x ∷ xs) (x ∷ insert_key R xs k))
      by Less rest = (p, a)
      by Equal rest = a
      by Greater rest = (a.0, rest)

  all_below : (k x : K) (xs : List K) → R k x ≡ Less → AllByRecursion (λ y. R x y ≡ Less) xs → AllByRecursion (λ y. R k y ≡ Less) xs
  all_below k x [] h a = tt
  all_below k x (y ∷ ys) h a = (o.trans k x y h a.0, all_below k x ys h a.1)

  pub sorted_insert : (ks : List K) (k : K) → IsStrictlySortedBy R ks → IsStrictlySortedBy R (insert_key R ks k)
  unfolding IsStrictlySortedBy
  sorted_insert [] k s = (tt, tt)
  sorted_insert (x ∷ xs) k s = by (R k x) refl (sorted_insert xs k s.1)
    where
      by : (r : Ordering) → R k x ≡ r → IsStrictlySortedBy R (insert_key R xs k)
          → IsStrictlySortedBy R (match_ordering r (k ∷ x ∷ xs) (x ∷ xs) (x ∷ insert_key R xs k))
      by Less h rest = ((h, all_below k x xs h s.0), s)
      by Equal h rest = s
      by Greater h rest = (all_insert (λ y. R x y ≡ Less) xs k s.0 (o.antisymm x k ∙ ap ordering_reverse h), rest)

  pub all_rising : (P : K → Type 0) (ks : List K) → AllByRecursion P ks → AllByRecursion P (rising R ks)
  all_rising P [] a = tt
  all_rising P (k ∷ ks) a = all_insert P (rising R ks) k (all_rising P ks a.1) a.0

  pub any_insert : (q : K) (ks : List K) (k : K) → list_any (eq_by_cmp R q) (insert_key R ks k) ≡ (eq_by_cmp R q k || list_any (eq_by_cmp R q) ks)
  any_insert q [] k = refl
  any_insert q (x ∷ xs) k = by (R k x) refl (any_insert q xs k)
    where
      by : (r : Ordering) → R k x ≡ r → list_any (eq_by_cmp R q) (insert_key R xs k) ≡ (eq_by_cmp R q k || list_any (eq_by_cmp R q) xs)
          → list_any (eq_by_cmp R q) (match_ordering r (k ∷ x ∷ xs) (x ∷ xs) (x ∷ insert_key R xs k))
          ≡ (eq_by_cmp R q k || (eq_by_cmp R q x || list_any (eq_by_cmp R q) xs))
      by Less h rest = refl
      by Equal h rest = or_twice (eq_by_cmp R q x) _ ∙ ap (λ r. is_eq r || (eq_by_cmp R q x || list_any (eq_by_cmp R q) xs)) (sym (alike_right o k x q h))
      by Greater h rest = ap (λ b. eq_by_cmp R q x || b) rest ∙ or_swap (eq_by_cmp R q x) (eq_by_cmp R q k) _

  pub sorted_rising : (ks : List K) → IsStrictlySortedBy R (rising R ks)
  unfolding IsStrictlySortedBy
  sorted_rising [] = tt
  sorted_rising (k ∷ ks) = sorted_insert (rising R ks) k (sorted_rising ks)

  pub any_rising : (q : K) (ks : List K) → list_any (eq_by_cmp R q) (rising R ks) ≡ list_any (eq_by_cmp R q) ks
  any_rising q [] = refl
  any_rising q (k ∷ ks) = any_insert q (rising R ks) k ∙ ap (λ b. eq_by_cmp R q k || b) (any_rising q ks)

  module _ (exact : CmpEqualImpliesEq R) where
    -- two lists in strict order with the same members are one
    pub same_sorted : (xs ys : List K) → IsStrictlySortedBy R xs → IsStrictlySortedBy R ys
        → ((q : K) → list_any (eq_by_cmp R q) xs ≡ list_any (eq_by_cmp R q) ys) → xs ≡ ys
    same_sorted xs ys a b h = btree_set_from_contains o (record { keys = xs }) (record { keys = ys }) a b h exact

    -- a list in strict order with the members of ks is `rising R ks`
    pub rising_is : (xs ks : List K) → IsStrictlySortedBy R xs → ((q : K) → list_any (eq_by_cmp R q) xs ≡ list_any (eq_by_cmp R q) ks) → xs ≡ rising R ks
    rising_is xs ks a h = same_sorted xs (rising R ks) a (sorted_rising ks) (λ q. h q ∙ sym (any_rising q ks))

    -- lists with the same members
    pub rising_same : (xs ys : List K) → ((q : K) → list_any (eq_by_cmp R q) xs ≡ list_any (eq_by_cmp R q) ys) → rising R xs ≡ rising R ys
    rising_same xs ys h = rising_is (rising R xs) ys (sorted_rising xs) (λ q. any_rising q xs ∙ h q)

    -- a part may be put in order first
    pub rising_append : (xs ys : List K) → rising R (rising R xs ++ ys) ≡ rising R (xs ++ ys)
    rising_append xs ys =
        rising_same (rising R xs ++ ys) (xs ++ ys) (λ q.
        list_any-append (eq_by_cmp R q) (rising R xs) ys ∙ ap (λ b. b || list_any (eq_by_cmp R q) ys) (any_rising q xs)
        ∙ sym (list_any-append (eq_by_cmp R q) xs ys))

    -- what is in order already stays
    pub rising_rising : (xs : List K) → IsStrictlySortedBy R xs → rising R xs ≡ xs
    rising_rising xs a = sym (rising_is xs xs a (λ q. refl))

  -- `dedup` keeps what a test finds, where the test cannot distinguish items that are equal by E
  any_dedup_from : (E : K → K → Bool) (p : K → Bool) → ((x y : K) → E x y ≡ true → p x ≡ p y)
      → (k : K) (xs : List K) → list_any p (dedup_from E k xs) ≡ (p k || list_any p xs)
  any_dedup_from E p alike k [] = refl
  any_dedup_from E p alike k (x ∷ xs) =
      cond_both (E x k) (dedup_from E k xs) (k ∷ dedup_from E x xs) (λ l. list_any p l ≡ (p k || (p x || list_any p xs)))
      (λ same. any_dedup_from E p alike k xs ∙ or_twice (p k) (list_any p xs) ∙ ap (λ b. p k || (b || list_any p xs)) (sym (alike x k same)))
      (λ _. ap (λ b. p k || b) (any_dedup_from E p alike x xs))

  pub any_dedup : (E : K → K → Bool) (p : K → Bool) → ((x y : K) → E x y ≡ true → p x ≡ p y) → (xs : List K) → list_any p (dedup E xs) ≡ list_any p xs
  any_dedup E p alike [] = refl
  any_dedup E p alike (x ∷ xs) = any_dedup_from E p alike x xs

  -- what a sort and a `dedup` leave of xs
  pub dedup_rising : CmpEqualImpliesEq R → {E : K → K → Bool} → ((x y : K) → E x y ≡ eq_by_cmp R x y)
      → (xs ys : List K) → IsPermutation xs ys → IsSorted R ys → dedup E ys ≡ rising R xs
  dedup_rising exact {E} ties xs ys moved up =
      rising_is exact (dedup E ys) xs (IsStrictlySortedBy-dedup o ties ys up) (λ q.
      any_dedup E (eq_by_cmp R q) (λ x y h. ap is_eq (alike_right o x y q ((Equal-is (R x y)).0 (sym (ties x y) ∙ h)))) ys
      ∙ sym (list_any-IsPermutation (eq_by_cmp R q) xs ys moved))
