-- Lists in strict order, and `rising`.
use Rattle.std.proofs.Common.{◌≡◌, ℕ, zero, suc, ◌<◌, List, [], ◌∷◌, length, get_or, refl, sym, ap, ◌∙◌, subst, arith, ◌⊎◌, inl, inr, ⊎_elim}
use Rattle.std.specs.Prelude.{◌↔◌}
use Rattle.std.specs.List.{Contains, AllPairs}
use Rattle.std.specs.BTreeSet.{insert_key}
use Rattle.std.specs.Cmp.{IsTotalOrder}
use Rattle.std.specs.Ordering.{match_ordering, ordering_reverse}
use Rattle.std.specs.declared.cmp.Ordering.{Ordering}
use Rattle.std.specs.declared.cmp.Ordering.TheVariants.{Less, Equal, Greater}
use Rattle.std.proofs.lemmas.Map.Lookups.{CmpEqualImpliesEq}
use Rattle.std.proofs.lemmas.List.Elements.{Contains-get_or}
use Rattle.area_graph.specs.Rising.{rising}
use Rattle.area_graph.proofs.MemberLemmas.{In, In-from_Contains, Contains-from_In}

module _ {K : Type 0} {R : K → K → Ordering} (o : IsTotalOrder R) (exact : CmpEqualImpliesEq R) where
  -- each is below those after it
  abbrev pub InOrder : List K → Type 0
  InOrder [] = Unit {0}
  InOrder (k ∷ ks) = ((x : K) → In ks x → R k x ≡ Less) × InOrder ks

  never_below_itself : (k : K) → R k k ≡ Less → ⊥
  never_below_itself k h = differ (sym h ∙ o.antisymm k k ∙ ap ordering_reverse h)
    where
      differ : Less ≡ Greater → ⊥
      differ e = absurd (cc)

  pub In-insert : (ks : List K) (k x : K) → In ks x ⊎ (k ≡ x) → In (insert_key R ks k) x
  In-insert [] k x (inl i) = absurd i
  In-insert [] k x (inr q) = inl q
  In-insert (y ∷ ys) k x h = by_order (R k y) refl h (In-insert ys k x)
    where
      by_order : (r : Ordering) → R k y ≡ r → In (y ∷ ys) x ⊎ (k ≡ x) → (In ys x ⊎ (k ≡ x) → In (insert_key R ys k) x)
          → In (match_ordering r (k ∷ y ∷ ys) (y ∷ ys) (y ∷ insert_key R ys k)) x
      by_order Less is (inl i) rest = inr i
      by_order Less is (inr q) rest = inl q
      by_order Equal is (inl i) rest = i
      by_order Equal is (inr q) rest = inl (sym (exact k y is) ∙ q)
      by_order Greater is (inl (inl p)) rest = inl p
      by_order Greater is (inl (inr i)) rest = inr (rest (inl i))
      by_order Greater is (inr q) rest = inr (rest (inr q))

  pub insert-In : (ks : List K) (k x : K) → In (insert_key R ks k) x → In ks x ⊎ (k ≡ x)
  insert-In [] k x (inl q) = inr q
  insert-In [] k x (inr i) = absurd i
  insert-In (y ∷ ys) k x h = by_order (R k y) h (insert-In ys k x)
    where
      by_order : (r : Ordering) → In (match_ordering r (k ∷ y ∷ ys) (y ∷ ys) (y ∷ insert_key R ys k)) x
          → (In (insert_key R ys k) x → In ys x ⊎ (k ≡ x)) → In (y ∷ ys) x ⊎ (k ≡ x)
      by_order Less (inl q) rest = inr q
      by_order Less (inr i) rest = inl i
      by_order Equal i rest = inl i
      by_order Greater (inl p) rest = inl (inl p)
      by_order Greater (inr i) rest = ⊎_elim (λ j. inl (inr j)) (λ q. inr q) (rest i)

  pub In-rising : (ks : List K) (x : K) → In ks x → In (rising R ks) x
  In-rising [] x i = i
  In-rising (k ∷ ks) x (inl q) = In-insert (rising R ks) k x (inr q)
  In-rising (k ∷ ks) x (inr i) = In-insert (rising R ks) k x (inl (In-rising ks x i))

  pub rising-In : (ks : List K) (x : K) → In (rising R ks) x → In ks x
  rising-In [] x i = i
  rising-In (k ∷ ks) x i = ⊎_elim (λ j. inr (rising-In ks x j)) (λ q. inl q) (insert-In (rising R ks) k x i)

  -- `rising` has the same members
  pub Contains-rising : (ks : List K) (x : K) → Contains (rising R ks) x ↔ Contains ks x
  Contains-rising ks x = (
    λ h. Contains-from_In ks x (rising-In ks x (In-from_Contains (rising R ks) x h)),
    λ h. Contains-from_In (rising R ks) x (In-rising ks x (In-from_Contains ks x h)),
  )

  InOrder-insert : (ks : List K) (k : K) → InOrder ks → InOrder (insert_key R ks k)
  InOrder-insert [] k s = (λ x i. absurd i, tt)
  InOrder-insert (y ∷ ys) k s = by_order (R k y) refl (InOrder-insert ys k s.1)
    where
      by_order : (r : Ordering) → R k y ≡ r → InOrder (insert_key R ys k) → InOrder (match_ordering r (k ∷ y ∷ ys) (y ∷ ys) (y ∷ insert_key R ys k))
      by_order Less is rest = (λ x. ⊎_elim (λ q. subst (λ (z : K). R k z ≡ Less) q is) (λ i. o.trans k y x is (s.0 x i)), s)
      by_order Equal is rest = s
      by_order Greater is rest = (
        λ x i. ⊎_elim (λ j. s.0 x j) (λ q. subst (λ (z : K). R y z ≡ Less) q (o.antisymm y k ∙ ap ordering_reverse is))
            (insert-In ys k x i),
        rest,
      )

  InOrder-rising : (ks : List K) → InOrder (rising R ks)
  InOrder-rising [] = tt
  InOrder-rising (k ∷ ks) = InOrder-insert (rising R ks) k (InOrder-rising ks)

  same_in_order : (xs ys : List K) → InOrder xs → InOrder ys → ((x : K) → In xs x → In ys x) → ((x : K) → In ys x → In xs x) → xs ≡ ys
  same_in_order [] [] s t there back = refl
  same_in_order [] (y ∷ ys) s t there back = absurd (back y (inl refl))
  same_in_order (x ∷ xs) [] s t there back = absurd (there x (inl refl))
  same_in_order (x ∷ xs) (y ∷ ys) s t there back =
      let heads : x ≡ y = same_head (there x (inl refl)) (back y (inl refl)) in
      ap (λ (k : K). k ∷ xs) heads ∙ ap (λ (ks : List K). y ∷ ks)
      (same_in_order xs ys s.1 t.1
      (λ z i. ⊎_elim (λ q. absurd (never_below_itself x (subst (λ (k : K). R x k ≡ Less) (sym q ∙ sym heads) (s.0 z i)))) (λ j. j) (there z (inr i)))
      (λ z i. ⊎_elim (λ q. absurd (never_below_itself y (subst (λ (k : K). R y k ≡ Less) (sym q ∙ heads) (t.0 z i)))) (λ j. j) (back z (inr i))))
    where
      same_head : In (y ∷ ys) x → In (x ∷ xs) y → x ≡ y
      same_head (inl q) j = sym q
      same_head (inr i) (inl q) = q
      same_head (inr i) (inr j) = absurd (never_below_itself x (o.trans x y x (s.0 y j) (t.0 x i)))

  InOrder-from_pairs : (ks : List K) → AllPairs (λ a b. R a b ≡ Less) ks → InOrder ks
  InOrder-from_pairs [] s = tt
  InOrder-from_pairs (k ∷ ks) s = (
    λ x i. (let c = Contains-from_In ks x i in subst (λ (z : K). R k z ≡ Less) c.2 (s 0 (suc c.0) x (omega arith) (omega (arith, c.1)))),
    InOrder-from_pairs ks (λ i j d lt within. s (suc i) (suc j) d (omega arith) (omega arith)),
  )

  -- a list in strict order with these members is `rising` of them
  pub rising-is : (xs ks : List K) → AllPairs (λ a b. R a b ≡ Less) xs → ((x : K) → Contains xs x ↔ Contains ks x) → xs ≡ rising R ks
  rising-is xs ks s same =
      same_in_order xs (rising R ks) (InOrder-from_pairs xs s) (InOrder-rising ks)
      (λ x i. In-rising ks x (In-from_Contains ks x ((same x).0 (Contains-from_In xs x i))))
      (λ x i. In-from_Contains xs x ((same x).1 (Contains-from_In ks x (rising-In ks x i))))

  by_place : (k : K) (ks : List K) → ((x : K) → In ks x → R k x ≡ Less) → AllPairs (λ a b. R a b ≡ Less) ks → (i j : ℕ) (d : K) → i < j
      → j < length (k ∷ ks) → R (get_or (k ∷ ks) i d) (get_or (k ∷ ks) j d) ≡ Less
  by_place k ks below rest i zero d lt within = absurd (omega arith)
  by_place k ks below rest zero (suc j) d lt within = below (get_or ks j d) (In-from_Contains ks (get_or ks j d) (Contains-get_or ks j d (omega arith)))
  by_place k ks below rest (suc i) (suc j) d lt within = rest i j d (omega arith) (omega arith)

  pairs-from_InOrder : (ks : List K) → InOrder ks → AllPairs (λ a b. R a b ≡ Less) ks
  pairs-from_InOrder [] s = λ i j d lt within. absurd (omega arith)
  pairs-from_InOrder (k ∷ ks) s = by_place k ks s.0 (pairs-from_InOrder ks s.1)

  -- `rising` is in strict order
  pub rising-pairs : (ks : List K) → AllPairs (λ a b. R a b ≡ Less) (rising R ks)
  rising-pairs ks = pairs-from_InOrder (rising R ks) (InOrder-rising ks)
