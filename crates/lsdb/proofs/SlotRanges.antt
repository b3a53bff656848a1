-- Slots noted in rising order of their keys, and of the indices of one key: the part from one key to another.
use Rattle.std.proofs.Common.{◌≡◌, ℕ, zero, suc, ◌+◌, ◌-◌, ◌<◌, Bool, true, false, List, [], ◌∷◌, ◌++◌, length, take, drop, get_or, refl, sym, ap, subst, ◌∙◌, arith, ◌⊎◌, inl, inr, ⊎_elim}
use Rattle.std.specs.Prelude.{All, AllPairs, Contains}
use Rattle.std.specs.Cmp.{IsTotalOrder}
use Rattle.std.specs.List.{AllByRecursion}
use Rattle.std.specs.List.Sorted.{IsPartitionedBy, IsPartitionPoint, IsStrictlySortedBy}
use Rattle.std.specs.Ordering.{is_le, is_lt, nat_cmp, ordering_reverse, ordering_then}
use Rattle.std.specs.Set.{sorted_merge}
use Rattle.std.specs.declared.cmp.Ordering.{Ordering}
use Rattle.std.specs.declared.cmp.Ordering.TheVariants.{Less, Equal, Greater}
use Rattle.std.proofs.lemmas.Bool.{and_parts, and_from, cases_lt, false≢true}
use Rattle.std.proofs.lemmas.Cmp.{nat_cmp_total, on_total, ranked, then_total}
use Rattle.std.proofs.lemmas.List.{length-take, length-drop, get_or-take, get_or-drop}
use Rattle.std.proofs.lemmas.List.Elements.{Contains-append_cases}
use Rattle.std.proofs.lemmas.Map.Keys.{Less-from_sorted}
use Rattle.std.proofs.lemmas.Map.Lookups.{CmpEqualImpliesEq, exact_unsigned}
use Rattle.lsa_codec.proofs.OrderLemmas.{then_both}
use Rattle.lsdb.specs.declared.slot_index.SlotOf.{SlotOf}
use Rattle.lsdb.specs.steps.SlotIndex.{AreRising, IsPart, is_within, slot_cmp}
use Rattle.lsdb.proofs.MergedLists.{every_merged, in_either, rising_merged}

-- ---- the order of slots

pub slot_total : {K : Type 0} (order : K → K → Ordering) → IsTotalOrder order → IsTotalOrder (slot_cmp order)
slot_total {K} order total = then_total (on_total (λ (p : SlotOf K). p.key) total) (on_total (λ (p : SlotOf K). p.index) nat_cmp_total)

pub slot_exact : {K : Type 0} (order : K → K → Ordering) → CmpEqualImpliesEq order → CmpEqualImpliesEq (slot_cmp order)
slot_exact order exact a b h =
    let same = then_both (order a.key b.key) (nat_cmp a.index b.index) h in
    λ i. record { key = exact a.key b.key same.0 i; index = exact_unsigned a.index b.index same.1 i }

less_is : (o : Ordering) → is_lt o ≡ true → o ≡ Less
less_is Less e = refl
less_is Equal e = absurd cc
less_is Greater e = absurd cc

upto_is : (o : Ordering) → is_le o ≡ true → (o ≡ Less) ⊎ (o ≡ Equal)
upto_is Less e = inl refl
upto_is Equal e = inr refl
upto_is Greater e = absurd cc

turned : (o p : Ordering) → p ≡ ordering_reverse o → is_lt o ≡ false → is_le p ≡ true
turned Less p e h = absurd cc
turned Equal p e h = ap is_le e
turned Greater p e h = ap is_le e

turned_back : (o p : Ordering) → p ≡ ordering_reverse o → is_lt o ≡ true → is_le p ≡ false
turned_back Less p e h = ap is_le e
turned_back Equal p e h = absurd cc
turned_back Greater p e h = absurd cc

both_upto : (o p : Ordering) → p ≡ ordering_reverse o → is_le o ≡ true → is_le p ≡ true → o ≡ Equal
both_upto Less p e h k = absurd (let no' : false ≡ true = sym (ap is_le e) ∙ k in cc)
both_upto Equal p e h k = refl
both_upto Greater p e h k = absurd cc

then_less : (o p : Ordering) → ordering_then o p ≡ Less → (o ≡ Less) ⊎ ((o ≡ Equal) × (p ≡ Less))
then_less Less p h = inl refl
then_less Equal p h = inr (refl, h)
then_less Greater p h = absurd cc

-- ---- parts of lists in rising order

rising_drop : {X : Type 0} (order : X → X → Ordering) (n : ℕ) (xs : List X) → IsStrictlySortedBy order xs → IsStrictlySortedBy order (drop n xs)
unfolding IsStrictlySortedBy
rising_drop order zero xs rising = rising
rising_drop order (suc n) [] rising = rising
rising_drop order (suc n) (x ∷ xs) rising = rising_drop order n xs rising.1

all_take : {X : Type 0} (P : X → Type 0) (n : ℕ) (xs : List X) → AllByRecursion P xs → AllByRecursion P (take n xs)
all_take P zero xs all = tt
all_take P (suc n) [] all = tt
all_take P (suc n) (x ∷ xs) all = (all.0, all_take P n xs all.1)

rising_take : {X : Type 0} (order : X → X → Ordering) (n : ℕ) (xs : List X) → IsStrictlySortedBy order xs → IsStrictlySortedBy order (take n xs)
unfolding IsStrictlySortedBy
rising_take order zero xs rising = tt
rising_take order (suc n) [] rising = tt
rising_take order (suc n) (x ∷ xs) rising = (all_take (λ y. order x y ≡ Less) n xs rising.0, rising_take order n xs rising.1)

-- ---- keys below one, and up to one

abbrev pub is_below : {K : Type 0} → (K → K → Ordering) → K → SlotOf K → Bool
is_below order low slot = is_lt (order slot.key low)

abbrev pub is_upto : {K : Type 0} → (K → K → Ordering) → K → SlotOf K → Bool
is_upto order high slot = is_le (order slot.key high)

module _ {K : Type 0} (order : K → K → Ordering) (total : IsTotalOrder order) (exact : CmpEqualImpliesEq order) where
  equal_to_self : (one : K) → order one one ≡ Equal
  equal_to_self one = by_order (order one one) (total.antisymm one one) where
    by_order : (o : Ordering) → o ≡ ordering_reverse o → o ≡ Equal
    by_order Less e = absurd cc
    by_order Equal e = refl
    by_order Greater e = absurd cc

  -- from a key to itself there is that key alone
  pub same_within : (one key : K) → key ≡ one → is_within order one one key ≡ true
  same_within one key same = ap (is_within order one one) same ∙ and_from _ _ (ap is_le (equal_to_self one)) (ap is_le (equal_to_self one))

  within_same : (one key : K) → is_within order one one key ≡ true → key ≡ one
  within_same one key h =
      let parts = and_parts _ _ h in
      exact key one (both_upto (order key one) (order one key) (total.antisymm one key) parts.1 parts.0)

  pub all_same : (xs : List (SlotOf K)) (one : K) → All (λ x. is_within order one one x.key ≡ true) xs → All (λ x. x.key ≡ one) xs
  all_same xs one h k d lt = within_same one (get_or xs k d).key (h k d lt)

  ordered : (xs : List (SlotOf K)) (i j : ℕ) (d : SlotOf K) → AreRising order xs → i < j → j < length xs
      → (order (get_or xs i d).key (get_or xs j d).key ≡ Less)
      ⊎ ((order (get_or xs i d).key (get_or xs j d).key ≡ Equal) × ((get_or xs i d).index < (get_or xs j d).index))
  ordered xs i j d rising lt within = ⊎_elim (λ less. inl less) (λ same. inr (same.0, ranked _ _ Less (sym same.1)))
      (then_less _ _ (Less-from_sorted (slot_cmp order) xs i j d rising lt within))

  same_slot : (p : SlotOf K → Bool) (xs : List (SlotOf K)) (i j : ℕ) (d : SlotOf K) → i ≡ j → p (get_or xs j d) ≡ true → p (get_or xs i d) ≡ true
  same_slot p xs i j d e h = ap (λ (k : ℕ). p (get_or xs k d)) e ∙ h

  pub parted_below : (low : K) (xs : List (SlotOf K)) → AreRising order xs → IsPartitionedBy (is_below order low) xs
  parted_below low xs rising i j d le within pass = ⊎_elim
      (λ lt. ⊎_elim
      (λ less. ap is_lt (total.trans (get_or xs i d).key (get_or xs j d).key low less (less_is _ pass)))
      (λ same. ap is_lt (total.congr (get_or xs i d).key (get_or xs j d).key low same.0) ∙ pass)
      (ordered xs i j d rising lt within))
      (λ ge. same_slot (is_below order low) xs i j d (omega arith) pass)
      (cases_lt i j)

  pub parted_upto : (high : K) (xs : List (SlotOf K)) → AreRising order xs → IsPartitionedBy (is_upto order high) xs
  parted_upto high xs rising i j d le within pass = ⊎_elim
      (λ lt. ⊎_elim
      (λ less. ⊎_elim
      (λ more. ap is_le (total.trans (get_or xs i d).key (get_or xs j d).key high less more))
      (λ equal. ap is_le (ap (order (get_or xs i d).key) (sym (exact (get_or xs j d).key high equal)) ∙ less))
      (upto_is _ pass))
      (λ same. ap is_le (total.congr (get_or xs i d).key (get_or xs j d).key high same.0) ∙ pass)
      (ordered xs i j d rising lt within))
      (λ ge. same_slot (is_upto order high) xs i j d (omega arith) pass)
      (cases_lt i j)

  -- so is what is left after the first of them
  pub parted_after : (high : K) (xs rest : List (SlotOf K)) (start : ℕ) → AreRising order xs → rest ≡ drop start xs → IsPartitionedBy (is_upto order high) rest
  parted_after high xs rest start rising is =
      parted_upto high rest (subst (λ (es : List (SlotOf K)). AreRising order es) (sym is) (rising_drop (slot_cmp order) start xs rising))

  -- indices of one key rise
  pub rising_of_key : (xs : List (SlotOf K)) (one : K) → AreRising order xs → All (λ x. x.key ≡ one) xs → AllPairs (λ a b. a.index < b.index) xs
  rising_of_key xs one rising own i j d lt within = ⊎_elim
      (λ less. absurd (let e : Equal ≡ Less =
      sym (equal_to_self one) ∙ ap (λ (k : K). order k one) (sym (own i d (omega arith)))
      ∙ ap (order (get_or xs i d).key) (sym (own j d within)) ∙ less in cc))
      (λ same. same.1)
      (ordered xs i j d rising lt within)

  -- parts merged
  pub parts_merged : (xs ys part other : List (SlotOf K)) (low high : K) → IsPart order xs low high part → IsPart order ys low high other
      → IsPart order (ys ++ xs) low high (sorted_merge (slot_cmp order) true part other)
  parts_merged xs ys part other low high p q = record {
    rising = rising_merged (slot_cmp order) (slot_total order total) part other p.rising q.rising;
    within = every_merged (slot_cmp order) (λ x. is_within order low high x.key ≡ true) part other p.within q.within;
    whole = λ x has inside. in_either (slot_cmp order) (slot_exact order exact) part other x
        (⊎_elim (λ there. inr (q.whole x there inside)) (λ there. inl (p.whole x there inside)) (Contains-append_cases ys xs x has));
  }

  -- ---- the part between two partition points

  abbrev StartsAt : K → List (SlotOf K) → ℕ → Type 0
  StartsAt low xs start = IsPartitionPoint (λ x. is_below order low x ≡ true) (λ x. is_below order low x ≡ false) xs start

  abbrev EndsAt : K → List (SlotOf K) → ℕ → Type 0
  EndsAt high xs end = IsPartitionPoint (λ x. is_upto order high x ≡ true) (λ x. is_upto order high x ≡ false) xs end

  module _ (xs : List (SlotOf K)) (low high : K) (start end : ℕ) (first : StartsAt low xs start) (last : EndsAt high (drop start xs) end) where
    within_part : All (λ x. is_within order low high x.key ≡ true) (take end (drop start xs))
    within_part k d lt =
        let rest : List (SlotOf K) = drop start xs in
        let short : (k < end) × (k < length rest) = (omega (arith, length-take end rest), omega (arith, length-take end rest)) in
        let long : start + k < length xs = omega (arith, length-drop start xs, short.1) in
        let here : get_or (take end rest) k d ≡ get_or xs (start + k) d = get_or-take end rest k d short.0 ∙ get_or-drop start xs k d in
        let x : SlotOf K = get_or xs (start + k) d in
        let above : is_le (order low x.key) ≡ true =
        turned (order x.key low) (order low x.key) (total.antisymm low x.key) (first.1 (start + k) d (omega arith) long) in
        let below : is_upto order high x ≡ true = ap (is_upto order high) (sym (get_or-drop start xs k d)) ∙ last.0 k d (omega arith) short.0 in
        ap (λ (y : SlotOf K). is_within order low high y.key) here ∙ and_from (is_le (order low x.key)) (is_upto order high x) above below

    whole_part : (x : SlotOf K) → Contains xs x → is_within order low high x.key ≡ true → Contains (take end (drop start xs)) x
    whole_part x at inside = ⊎_elim
        (λ before.
        let less : is_below order low x ≡ true = ap (is_below order low) (sym at.2) ∙ first.0 at.0 x (omega arith) before in
        absurd (false≢true (sym (turned_back (order x.key low) (order low x.key) (total.antisymm low x.key) less) ∙ (and_parts _ _ inside).0)))
        (λ from.
        let rest : List (SlotOf K) = drop start xs in
        let j : ℕ = at.0 - start in
        let long : j < length rest = omega (arith, length-drop start xs, at.1) in
        let here : get_or rest j x ≡ x = get_or-drop start xs j x ∙ ap (λ (k : ℕ). get_or xs k x) (let back : start + j ≡ at.0 = omega arith in back) ∙ at.2 in
        ⊎_elim
        (λ within. (j, omega (arith, length-take end rest), get_or-take end rest j x within ∙ here))
        (λ beyond.
        let greater : is_upto order high x ≡ false = ap (is_upto order high) (sym here) ∙ last.1 j x beyond long in
        absurd (false≢true (sym greater ∙ (and_parts _ _ inside).1)))
        (cases_lt j end))
        (cases_lt at.0 start)

  pub part_between : (xs rest : List (SlotOf K)) (low high : K) (start end : ℕ) → AreRising order xs → rest ≡ drop start xs
      → IsPartitionPoint (λ x. is_below order low x ≡ true) (λ x. is_below order low x ≡ false) xs start
      → IsPartitionPoint (λ x. is_upto order high x ≡ true) (λ x. is_upto order high x ≡ false) rest end → IsPart order xs low high (take end rest)
  part_between xs rest low high start end rising is first last =
      let ends : EndsAt high (drop start xs) end = subst (λ (es : List (SlotOf K)). EndsAt high es end) is last in
      subst (λ (es : List (SlotOf K)). IsPart order xs low high (take end es)) (sym is) (record {
        rising = rising_take (slot_cmp order) end (drop start xs) (rising_drop (slot_cmp order) start xs rising);
        within = within_part xs low high start end first ends;
        whole = whole_part xs low high start end first ends;
      })
