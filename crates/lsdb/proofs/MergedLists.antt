-- Two lists in rising order, merged: what is true of the items of both, their order, and what a merge gives first.
use Rattle.std.proofs.Common.{◌≡◌, zero, suc, true, List, [], ◌∷◌, length, refl, sym, ap, subst, ◌∙◌, arith, ◌⊎◌, ⊎_elim}
use Rattle.std.specs.Prelude.{All, Contains}
use Rattle.std.specs.Cmp.{IsTotalOrder}
use Rattle.std.specs.List.{AllByRecursion}
use Rattle.std.specs.List.Sorted.{IsStrictlySortedBy}
use Rattle.std.specs.Ordering.{match_ordering, ordering_reverse}
use Rattle.std.specs.Set.{sorted_merge}
use Rattle.std.specs.declared.cmp.Ordering.{Ordering}
use Rattle.std.specs.declared.cmp.Ordering.TheVariants.{Less, Equal, Greater}
use Rattle.std.proofs.lemmas.List.Elements.{All-from_recursion, recursion_from_All}
use Rattle.std.proofs.lemmas.Map.Lookups.{CmpEqualImpliesEq}

by_order : {X : Type 0} (P : List X → Type 0) (o : Ordering) (xs ys zs : List X) → (o ≡ Less → P xs) → (o ≡ Equal → P ys) → (o ≡ Greater → P zs)
    → P (match_ordering o xs ys zs)
by_order P Less xs ys zs less equal greater = less refl
by_order P Equal xs ys zs less equal greater = equal refl
by_order P Greater xs ys zs less equal greater = greater refl

-- ---- what is true of all

module _ {X : Type 0} (order : X → X → Ordering) where
  abbrev merged : List X → List X → List X
  merged xs ys = sorted_merge order true xs ys

  all_step : (P : X → Type 0) (x : X) (xs : List X) → P x → AllByRecursion P xs
      → ((ys : List X) → AllByRecursion P ys → AllByRecursion P (merged xs ys)) → (ys : List X) → AllByRecursion P ys → AllByRecursion P (merged (x ∷ xs) ys)
  all_step P x xs p all rest [] others = (p, all)
  all_step P x xs p all rest (y ∷ ys) others =
      by_order (AllByRecursion P) (order x y) _ _ _
      (λ _. (p, rest (y ∷ ys) others)) (λ _. (p, rest ys others.1)) (λ _. (others.0, all_step P x xs p all rest ys others.1))

  all_merged : (P : X → Type 0) (xs ys : List X) → AllByRecursion P xs → AllByRecursion P ys → AllByRecursion P (merged xs ys)
  all_merged P [] ys all others = others
  all_merged P (x ∷ xs) ys all others = all_step P x xs all.0 all.1 (λ zs. all_merged P xs zs all.1) ys others

  pub every_merged : (P : X → Type 0) (xs ys : List X) → All P xs → All P ys → All P (merged xs ys)
  every_merged P xs ys all others = All-from_recursion P (merged xs ys) (all_merged P xs ys (recursion_from_All P xs all) (recursion_from_All P ys others))

  -- the second list is empty
  alone : (xs : List X) → merged xs [] ≡ xs
  alone [] = refl
  alone (x ∷ xs) = refl

  pub first_alone : (xs us ys : List X) (x : X) → xs ≡ x ∷ us → length ys ≡ 0 → merged xs ys ≡ x ∷ merged us ys
  first_alone xs us [] x is none = alone xs ∙ is ∙ ap (λ (zs : List X). x ∷ zs) (sym (alone us))
  first_alone xs us (y ∷ ys) x is none = absurd (omega (arith, none))

  -- ---- order

  module _ (total : IsTotalOrder order) where
    abbrev Below : X → List X → Type 0
    Below x ys = AllByRecursion (λ y. order x y ≡ Less) ys

    under : (x y : X) → order x y ≡ Greater → order y x ≡ Less
    under x y h = total.antisymm y x ∙ ap ordering_reverse h

    all_below : (x y : X) (ys : List X) → order x y ≡ Less → Below y ys → Below x ys
    all_below x y [] less all = tt
    all_below x y (z ∷ zs) less all = (total.trans x y z less all.0, all_below x y zs less all.1)

    all_level : (x y : X) (ys : List X) → order x y ≡ Equal → Below y ys → Below x ys
    all_level x y [] equal all = tt
    all_level x y (z ∷ zs) equal all = (total.congr x y z equal ∙ all.0, all_level x y zs equal all.1)

    rising_step : (x : X) (xs : List X) → IsStrictlySortedBy order (x ∷ xs)
        → ((ys : List X) → IsStrictlySortedBy order ys → IsStrictlySortedBy order (merged xs ys))
        → (ys : List X) → IsStrictlySortedBy order ys → IsStrictlySortedBy order (merged (x ∷ xs) ys)
    unfolding IsStrictlySortedBy
    rising_step x xs rising rest [] others = rising
    rising_step x xs rising rest (y ∷ ys) others =
        by_order (IsStrictlySortedBy order) (order x y) _ _ _
        (λ less. (all_merged (λ z. order x z ≡ Less) xs (y ∷ ys) rising.0 (less, all_below x y ys less others.0), rest (y ∷ ys) others))
        (λ equal. (all_merged (λ z. order x z ≡ Less) xs ys rising.0 (all_level x y ys equal others.0), rest ys others.1))
        (λ greater.
        let less = under x y greater in
        (all_merged (λ z. order y z ≡ Less) (x ∷ xs) ys (less, all_below y x xs less rising.0) others.0, rising_step x xs rising rest ys others.1))

    pub rising_merged : (xs ys : List X) → IsStrictlySortedBy order xs → IsStrictlySortedBy order ys → IsStrictlySortedBy order (merged xs ys)
    unfolding IsStrictlySortedBy
    rising_merged [] ys rising others = others
    rising_merged (x ∷ xs) ys rising others = rising_step x xs rising (λ zs. rising_merged xs zs rising.1) ys others

  -- ---- items

  in_tail : (x : X) (xs : List X) (z : X) → Contains xs z → Contains (x ∷ xs) z
  in_tail x xs z has = (suc has.0, omega (arith, has.1), has.2)

  second_step : (x : X) (xs : List X) (z : X) → CmpEqualImpliesEq order → ((ys : List X) → Contains ys z → Contains (merged xs ys) z)
      → (ys : List X) → Contains ys z → Contains (merged (x ∷ xs) ys) z
  second_step x xs z exact rest [] has = absurd (omega (arith, has.1))
  second_step x xs z exact rest (y ∷ ys) (zero, within, is) =
      by_order (λ zs. Contains zs z) (order x y) _ _ _
      (λ _. in_tail x (merged xs (y ∷ ys)) z (rest (y ∷ ys) (zero, within, is)))
      (λ equal. (0, omega arith, exact x y equal ∙ is))
      (λ _. (0, omega arith, is))
  second_step x xs z exact rest (y ∷ ys) (suc k, within, is) =
      let beyond : Contains ys z = (k, omega (arith, within), is) in
      by_order (λ zs. Contains zs z) (order x y) _ _ _
      (λ _. in_tail x (merged xs (y ∷ ys)) z (rest (y ∷ ys) (suc k, within, is)))
      (λ _. in_tail x (merged xs ys) z (rest ys beyond))
      (λ _. in_tail y (merged (x ∷ xs) ys) z (second_step x xs z exact rest ys beyond))

  in_second : CmpEqualImpliesEq order → (xs ys : List X) (z : X) → Contains ys z → Contains (merged xs ys) z
  in_second exact [] ys z has = has
  in_second exact (x ∷ xs) ys z has = second_step x xs z exact (λ zs. in_second exact xs zs z) ys has

  first_here : (x : X) (xs : List X) (z : X) → x ≡ z → (ys : List X) → Contains (merged (x ∷ xs) ys) z
  first_here x xs z is [] = (0, omega arith, is)
  first_here x xs z is (y ∷ ys) =
      by_order (λ zs. Contains zs z) (order x y) _ _ _ (λ _. (0, omega arith, is)) (λ _. (0, omega arith, is))
      (λ _. in_tail y (merged (x ∷ xs) ys) z (first_here x xs z is ys))

  first_after : (x : X) (xs : List X) (z : X) → ((ys : List X) → Contains (merged xs ys) z) → (ys : List X) → Contains (merged (x ∷ xs) ys) z
  first_after x xs z rest [] = in_tail x xs z (subst (λ (zs : List X). Contains zs z) (alone xs) (rest []))
  first_after x xs z rest (y ∷ ys) =
      by_order (λ zs. Contains zs z) (order x y) _ _ _
      (λ _. in_tail x (merged xs (y ∷ ys)) z (rest (y ∷ ys))) (λ _. in_tail x (merged xs ys) z (rest ys))
      (λ _. in_tail y (merged (x ∷ xs) ys) z (first_after x xs z rest ys))

  in_first : (xs : List X) (z : X) → Contains xs z → (ys : List X) → Contains (merged xs ys) z
  in_first [] z has ys = absurd (omega (arith, has.1))
  in_first (x ∷ xs) z (zero, within, is) ys = first_here x xs z is ys
  in_first (x ∷ xs) z (suc k, within, is) ys = first_after x xs z (in_first xs z (k, omega (arith, within), is)) ys

  pub in_either : CmpEqualImpliesEq order → (xs ys : List X) (z : X) → Contains xs z ⊎ Contains ys z → Contains (merged xs ys) z
  in_either exact xs ys z has = ⊎_elim (λ first. in_first xs z first ys) (λ second. in_second exact xs ys z second) has
