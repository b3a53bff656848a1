-- An index of slots: noted again, and kept as slots are exchanged and opened.
use Rattle.std.proofs.Common.{◌≡◌, ℕ, zero, suc, ◌+◌, ◌<◌, ◌≤◌, Bool, true, false, List, [], ◌∷◌, ◌++◌, length, drop, get_or, eqb, Option, Some, None, refl, sym, ap, subst, ◌∙◌, arith, append_assoc, length-append, ⊎_elim, ◌⊎◌, inl, inr}
use Rattle.std.specs.Prelude.{◌≢◌, Contains, option_map, vec_capacity}
use Rattle.std.specs.Cmp.{IsTotalOrder}
use Rattle.std.specs.List.{AllByRecursion, IsDistinct, cons_option}
use Rattle.std.specs.List.Sorted.{IsPermutation, IsSorted, IsStrictlySortedBy}
use Rattle.std.specs.Ordering.{is_lt, ordering_reverse}
use Rattle.std.specs.declared.cmp.Ordering.{Ordering}
use Rattle.std.specs.declared.cmp.Ordering.TheVariants.{Less, Equal, Greater}
use Rattle.std.proofs.lemmas.Bool.{cases_eq, eq-eqb, ne_eqb}
use Rattle.std.proofs.lemmas.Cmp.{nat_eq_equiv}
use Rattle.std.proofs.lemmas.List.Elements.{Contains-append_cases, Contains-append_left, Contains-append_right}
use Rattle.std.proofs.lemmas.List.Sorted.{Contains-permutation}
use Rattle.std.proofs.lemmas.Map.Keys.{IsDistinct-IsPermutation, apart_from_distinct, sorted_from_all_adjacent}
use Rattle.std.proofs.lemmas.Map.Lookups.{CmpEqualImpliesEq}
use Rattle.lsdb.specs.declared.slot_index.SlotIndex.{SlotIndex}
use Rattle.lsdb.specs.declared.slot_index.SlotOf.{SlotOf}
use Rattle.lsdb.specs.Slots.{Slot, item_at, put_slot}
use Rattle.lsdb.specs.steps.SlotIndex.{AreNoted, AreRising, IsIndex, NotesOne, most_slots, noted_at, noted_from, slot_cmp, slot_of}
use Rattle.lsdb.proofs.OneSection.{count_after}
use Rattle.lsdb.proofs.Searching.{turn}
use Rattle.lsdb.proofs.SlotRanges.{slot_exact, slot_total}

-- ---- a loop over the slots

abbrev pub NotedSoFar : {K : Type 0} → (List ℕ → Option K) → List Slot → ℕ → List (SlotOf K) → Type 0
NotedSoFar found_by ps i done = done ++ noted_from found_by i (drop i ps) ≡ noted_from found_by 0 ps

noted_next : {K : Type 0} (found_by : List ℕ → Option K) (ps : List Slot) (i : ℕ) (p : Slot) → i < length ps → p ≡ get_or ps i p
    → noted_from found_by i (drop i ps) ≡ cons_option (noted_at found_by i p) (noted_from found_by (suc i) (drop (suc i) ps))
noted_next found_by ps i p lt here = ap (noted_from found_by i) (turn ps i (suc i) p lt refl here).rest

pub noted_none : {K : Type 0} (found_by : List ℕ → Option K) (ps : List Slot) (i j : ℕ) (p : Slot) (done : List (SlotOf K)) → i < length ps → j ≡ suc i
    → p ≡ get_or ps i p → noted_at found_by i p ≡ None → NotedSoFar found_by ps i done → NotedSoFar found_by ps j done
noted_none {K} found_by ps i j p done lt e here none so_far =
    let more : List (SlotOf K) = noted_from found_by (suc i) (drop (suc i) ps) in
    let rest : noted_from found_by i (drop i ps) ≡ more =
    noted_next found_by ps i p lt here ∙ ap (λ (o : Option (SlotOf K)). cons_option o more) none in
    subst (λ (k : ℕ). NotedSoFar found_by ps k done) (sym e) (sym (ap (λ (es : List (SlotOf K)). done ++ es) rest) ∙ so_far)

pub noted_one : {K : Type 0} (found_by : List ℕ → Option K) (ps : List Slot) (i j : ℕ) (p : Slot) (name : SlotOf K) (done : List (SlotOf K)) → i < length ps
    → j ≡ suc i → p ≡ get_or ps i p → noted_at found_by i p ≡ Some name → NotedSoFar found_by ps i done → NotedSoFar found_by ps j (done ++ name ∷ [])
noted_one {K} found_by ps i j p name done lt e here one so_far =
    let more : List (SlotOf K) = noted_from found_by (suc i) (drop (suc i) ps) in
    let rest : noted_from found_by i (drop i ps) ≡ name ∷ more =
    noted_next found_by ps i p lt here ∙ ap (λ (o : Option (SlotOf K)). cons_option o more) one in
    subst (λ (k : ℕ). NotedSoFar found_by ps k (done ++ name ∷ [])) (sym e)
    (append_assoc done (name ∷ []) more ∙ sym (ap (λ (es : List (SlotOf K)). done ++ es) rest) ∙ so_far)

-- ---- noted again

in_cons : {X : Type 0} (o : Option X) (xs : List X) (x : X) → Contains xs x → Contains (cons_option o xs) x
in_cons None xs x has = has
in_cons (Some y) xs x has = (suc has.0, omega (arith, has.1), has.2)

in_front : {X : Type 0} (o : Option X) (xs : List X) (x : X) → o ≡ Some x → Contains (cons_option o xs) x
in_front None xs x is = absurd cc
in_front (Some y) xs x is = (0, omega arith, (let e : y ≡ x = cc in e))

there : {K : Type 0} (found_by : List ℕ → Option K) (n i m : ℕ) (ps : List Slot) (p : Slot) (x : SlotOf K) → m ≡ n + i → item_at ps i ≡ Some p
    → noted_at found_by m p ≡ Some x → Contains (noted_from found_by n ps) x
there found_by n i m [] p x e at is = absurd cc
there {K} found_by n zero m (q ∷ ps) p x e at is =
    let same : q ≡ p = cc in
    let number : n ≡ m = omega arith in
    in_front (noted_at found_by n q) (noted_from found_by (suc n) ps) x
    (ap (λ (k : ℕ). noted_at found_by k q) number ∙ ap (noted_at found_by m) same ∙ is)
there found_by n (suc i) m (q ∷ ps) p x e at is =
    in_cons (noted_at found_by n q) (noted_from found_by (suc n) ps) x (there found_by (suc n) i m ps p x (omega arith) at is)

none_sorted : {X : Type 0} (order : X → X → Ordering) → IsStrictlySortedBy order []
unfolding IsStrictlySortedBy
none_sorted order = tt

by_order : (o p : Ordering) → p ≡ ordering_reverse o → is_lt p ≡ false → (o ≡ Equal → ⊥) → o ≡ Less
by_order Less p e h apart = refl
by_order Equal p e h apart = absurd (apart refl)
by_order Greater p e h apart = absurd (let less : is_lt p ≡ true = ap is_lt e in let no' : true ≡ false = sym less ∙ h in cc)

all_cons : {X : Type 0} (P : X → Type 0) (o : Option X) (xs : List X) → ((x : X) → o ≡ Some x → P x) → AllByRecursion P xs → AllByRecursion P (cons_option o xs)
all_cons P None xs h all = all
all_cons P (Some x) xs h all = (h x refl, all)

distinct_cons : {X : Type 0} (same : X → X → Bool) (o : Option X) (xs : List X) → ((x : X) → o ≡ Some x → AllByRecursion (λ y. same x y ≡ false) xs)
    → IsDistinct same xs → IsDistinct same (cons_option o xs)
unfolding IsDistinct
distinct_cons same None xs h all = all
distinct_cons same (Some x) xs h all = (h x refl, all)

index_of_key : {K : Type 0} (i : ℕ) (o : Option K) (x : SlotOf K) → option_map (slot_of i) o ≡ Some x → x.index ≡ i
index_of_key i None x is = absurd cc
index_of_key {K} i (Some key) x is = let same : slot_of i key ≡ x = cc in sym (ap (λ (p : SlotOf K). p.index) same)

index_of : {K : Type 0} (found_by : List ℕ → Option K) (i : ℕ) (p : Slot) (x : SlotOf K) → noted_at found_by i p ≡ Some x → x.index ≡ i
index_of found_by i None x is = absurd cc
index_of found_by i (Some lsa) x is = index_of_key i (found_by lsa) x is

abbrev same_index : {K : Type 0} → SlotOf K → SlotOf K → Bool
same_index a b = eqb a.index b.index

beyond : {K : Type 0} (found_by : List ℕ → Option K) (n m : ℕ) (ps : List Slot) → m < n
    → AllByRecursion (λ (y : SlotOf K). eqb m y.index ≡ false) (noted_from found_by n ps)
beyond found_by n m [] lt = tt
beyond {K} found_by n m (p ∷ ps) lt =
    all_cons (λ (y : SlotOf K). eqb m y.index ≡ false) (noted_at found_by n p) (noted_from found_by (suc n) ps)
    (λ y is. ne_eqb m y.index (λ e. absurd (omega (arith, index_of found_by n p y is)))) (beyond found_by (suc n) m ps (omega arith))

differ : {K : Type 0} (found_by : List ℕ → Option K) (n : ℕ) (ps : List Slot) → IsDistinct same_index (noted_from found_by n ps)
unfolding IsDistinct
differ found_by n [] = tt
differ {K} found_by n (p ∷ ps) =
    distinct_cons same_index (noted_at found_by n p) (noted_from found_by (suc n) ps)
    (λ x is. beyond found_by (suc n) x.index ps (omega (arith, index_of found_by n p x is))) (differ found_by (suc n) ps)

module _ {K : Type 0} (order : K → K → Ordering) (total : IsTotalOrder order) (exact : CmpEqualImpliesEq order) (found_by : List ℕ → Option K) where
  rising_from : (noted : List (SlotOf K)) → IsSorted (slot_cmp order) noted → IsDistinct same_index noted → AreRising order noted
  rising_from [] sorted apart = none_sorted (slot_cmp order)
  rising_from (d ∷ ds) sorted apart =
      let noted : List (SlotOf K) = d ∷ ds in
      sorted_from_all_adjacent (slot_total order total) noted d (λ k lt.
      let a : SlotOf K = get_or noted k d in
      let b : SlotOf K = get_or noted (k + 1) d in
      by_order (slot_cmp order a b) (slot_cmp order b a) ((slot_total order total).antisymm b a) (sorted k d (omega arith) lt) (λ equal.
      let yes : eqb a.index b.index ≡ true = eq-eqb _ _ (ap (λ (p : SlotOf K). p.index) (slot_exact order exact a b equal)) in
      let no' : eqb a.index b.index ≡ false = apart_from_distinct same_index noted k (k + 1) d apart (omega arith) lt in
      let both : true ≡ false = sym yes ∙ no' in
      cc))

  pub filled : (ps : List Slot) (noted : List (SlotOf K)) (room before : ℕ) → IsPermutation (noted_from found_by 0 ps) noted
      → IsSorted (slot_cmp order) noted → length ps ≤ before → room ≡ before → length ps ≤ most_slots → AreNoted order found_by ps noted [] room
  filled ps noted room before moved sorted fits same narrow = record {
    rising =
        rising_from noted sorted
        (IsDistinct-IsPermutation same_index (λ a b. nat_eq_equiv.symm a.index b.index) (noted_from found_by 0 ps) noted moved (differ found_by 0 ps));
    latest_rising = none_sorted (slot_cmp order);
    whole = λ i p x at is. Contains-permutation (noted_from found_by 0 ps) noted x moved (there found_by 0 i i ps p x (omega arith) at is);
    fits = omega arith;
    narrow = narrow;
  }

-- ---- one slot, at which b stood before

item_other : (v : Slot) (ps : List Slot) (n i : ℕ) (p : Slot) → i ≢ n → item_at ps i ≡ Some p → item_at (put_slot v ps n) i ≡ Some p
item_other v [] n i p other at = at
item_other v (q ∷ ps) zero zero p other at = absurd (other refl)
item_other v (q ∷ ps) zero (suc i) p other at = at
item_other v (q ∷ ps) (suc n) zero p other at = at
item_other v (q ∷ ps) (suc n) (suc i) p other at = item_other v ps n i p (λ e. other (ap suc e)) at

item_put : (v : Slot) (ps : List Slot) (n : ℕ) → n < length ps → item_at (put_slot v ps n) n ≡ Some v
item_put v [] n lt = absurd (omega arith)
item_put v (p ∷ ps) zero lt = refl
item_put v (p ∷ ps) (suc n) lt = item_put v ps n (omega arith)

module _ {K A : Type 0} (order : K → K → Ordering) (found_by : List ℕ → Option K) (ps : List Slot) (n : ℕ) (b : Slot) (index : SlotIndex K A)
    (lt : n < length ps) (was : IsIndex order found_by (put_slot b ps n) index) where
  pub fits : length ps ≤ vec_capacity index.noted
  fits = omega (arith, count_after b ps n, was.fits)

  pub narrow : length ps ≤ most_slots
  narrow = omega (arith, count_after b ps n, was.narrow)

  module _ (p : Slot) (here : p ≡ get_or ps n p) where
    stands : item_at ps n ≡ Some p
    stands = (turn ps n (suc n) p lt refl here).here

    named_there : (name : SlotOf K) (new : List (SlotOf K)) → noted_at found_by n p ≡ Some name → AreRising order new
        → Contains (new ++ index.noted.items) name → ((x : SlotOf K) → Contains index.latest.items x → Contains new x)
        → AreNoted order found_by ps index.noted.items new (vec_capacity index.noted)
    named_there name new is rising has kept = record {
      rising = was.rising;
      latest_rising = rising;
      whole = λ i q x at named_so. ⊎_elim (λ same.
          let both : Some p ≡ Some q = sym stands ∙ ap (item_at ps) (sym same) ∙ at in
          let one : p ≡ q = cc in
          let it : Some name ≡ Some x = sym is ∙ ap (noted_at found_by n) one ∙ ap (λ (k : ℕ). noted_at found_by k q) (sym same) ∙ named_so in
          let e : name ≡ x = cc in
          subst (λ (y : SlotOf K). Contains (new ++ index.noted.items) y) e has)
          (λ other. ⊎_elim (λ there. Contains-append_left new index.noted.items x (kept x there)) (λ there. Contains-append_right new index.noted.items x there)
          (Contains-append_cases index.latest.items index.noted.items x (was.whole i q x (item_other b ps n i q other at) named_so)))
          (cases_eq i n);
      fits = fits;
      narrow = narrow;
    }

    -- it is noted now
    pub noted_there : (name : SlotOf K) (new : List (SlotOf K)) → noted_at found_by n p ≡ Some name → NotesOne (slot_cmp order) index.latest.items new name
        → AreNoted order found_by ps index.noted.items new (vec_capacity index.noted)
    noted_there name new is notes =
        named_there name new is notes.rising (Contains-append_left new index.noted.items name notes.noted) notes.kept

    -- it was noted before
    pub noted_before : (name : SlotOf K) → noted_at found_by n p ≡ Some name → Contains index.noted.items name → IsIndex order found_by ps index
    noted_before name is has =
        named_there name index.latest.items is was.latest_rising (Contains-append_right index.latest.items index.noted.items name has) (λ x there. there)

    -- what stood there before was noted as this
    pub noted_same : (name : SlotOf K) → noted_at found_by n p ≡ Some name → noted_at found_by n b ≡ Some name → IsIndex order found_by ps index
    noted_same name is same =
        named_there name index.latest.items is was.latest_rising (was.whole n b name (item_put b ps n lt) same) (λ x there. there)

    -- nothing is to be noted of the slot
    pub none_there : noted_at found_by n p ≡ None → IsIndex order found_by ps index
    none_there is = record {
      rising = was.rising;
      latest_rising = was.latest_rising;
      whole = λ i q x at named_so. ⊎_elim (λ same.
          let both : Some p ≡ Some q = sym stands ∙ ap (item_at ps) (sym same) ∙ at in
          let one : p ≡ q = cc in
          let no' : None ≡ Some x = sym is ∙ ap (noted_at found_by n) one ∙ ap (λ (k : ℕ). noted_at found_by k q) (sym same) ∙ named_so in
          absurd cc)
          (λ other. was.whole i q x (item_other b ps n i q other at) named_so) (cases_eq i n);
      fits = fits;
      narrow = narrow;
    }

-- ---- slots opened

item_opened : (ps : List Slot) (i : ℕ) (p : Slot) → item_at (ps ++ None ∷ []) i ≡ Some p → (p ≡ None) ⊎ (item_at ps i ≡ Some p)
item_opened [] zero p at = inl (let e : p ≡ None = cc in e)
item_opened [] (suc i) p at = absurd cc
item_opened (q ∷ ps) zero p at = inr at
item_opened (q ∷ ps) (suc i) p at = item_opened ps i p at

module _ {K : Type 0} (order : K → K → Ordering) (found_by : List ℕ → Option K) (ps : List Slot) (noted latest new later : List (SlotOf K))
    (room room' : ℕ) (same : new ≡ noted) (same_latest : later ≡ latest) (indexed : AreNoted order found_by ps noted latest room) where
  kept_lists : length ps ≤ room' → AreNoted order found_by ps new later room'
  kept_lists fits = rw (same, same_latest) (record {
    rising = indexed.rising;
    latest_rising = indexed.latest_rising;
    whole = indexed.whole;
    fits = fits;
    narrow = indexed.narrow;
  })

  opened_lists : length ps < room' → length ps < most_slots → AreNoted order found_by (ps ++ None ∷ []) new later room'
  opened_lists fits narrow = rw (same, same_latest) (record {
    rising = indexed.rising;
    latest_rising = indexed.latest_rising;
    whole = λ i p x at named_so. ⊎_elim
        (λ none. absurd (let no' : None ≡ Some x = ap (noted_at found_by i) (sym none) ∙ named_so in cc))
        (λ before. indexed.whole i p x before named_so)
        (item_opened ps i p at);
    fits = omega (arith, length-append ps (None ∷ []));
    narrow = omega (arith, length-append ps (None ∷ []));
  })

module _ {K A : Type 0} (order : K → K → Ordering) (found_by : List ℕ → Option K) (ps : List Slot) (old new : SlotIndex K A)
    (same : new.noted.items ≡ old.noted.items) (same_latest : new.latest.items ≡ old.latest.items) where
  pub kept : length ps ≤ vec_capacity new.noted → IsIndex order found_by ps old → IsIndex order found_by ps new
  kept fits indexed =
      kept_lists order found_by ps old.noted.items old.latest.items new.noted.items new.latest.items (vec_capacity old.noted) (vec_capacity new.noted)
      same same_latest indexed fits

  pub opened : length ps < vec_capacity new.noted → length ps < most_slots → IsIndex order found_by ps old → IsIndex order found_by (ps ++ None ∷ []) new
  opened fits narrow indexed =
      opened_lists order found_by ps old.noted.items old.latest.items new.noted.items new.latest.items (vec_capacity old.noted) (vec_capacity new.noted)
      same same_latest indexed fits narrow
