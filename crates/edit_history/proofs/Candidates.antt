-- The first wanted LSA, among the keys of a range.
use Rattle.std.proofs.Common.{◌≡◌, ℕ, zero, suc, ◌<◌, ◌≤◌, min, Bool, true, false, cond, List, [], ◌∷◌, ◌++◌, get_or, Option, Some, None, refl, sym, ap, ◌∙◌, subst, arith, ⊎_elim}
use Rattle.std.specs.Prelude.{All, IfSome, IsSome, IsSomeAnd}
use Rattle.std.specs.List.{find}
use Rattle.std.proofs.lemmas.Bool.{and_from, and_parts, cases_lt}
use Rattle.std.proofs.lemmas.List.Elements.{All-append, All-contains, All-cons, All-nil}
use Rattle.lsa_codec.specs.declared.key.Key.{Key}
use Rattle.lsa_codec.specs.Key.{key_of}
use Rattle.lsdb.specs.KeyRanges.{AreKeysBetween, HaveKeysBetween, KeyAt}
use Rattle.lsdb.specs.Slots.{Slot, Slots, SectionSlots, item_at, slot_at, slot_in, full, lsas_in, slots_in, slots_or_none, IsFirstSlot}
use Rattle.edit_history.specs.declared.lookup.Wanted.{Wanted}
use Rattle.edit_history.specs.steps.Plans.{is_wanted, passes, slot_of}
use Rattle.edit_history.specs.steps.Searching.{is_wanted_by_key, lesser}
use Rattle.edit_history.proofs.Searches.{lsas_full, slot_there}
use Rattle.edit_history.proofs.WantedKeys.{has_marked_key}

-- ---- the least slot that passes is the first

first_is : (test : List ℕ → Bool) (ps : List Slot) (m : ℕ) (lsa : List ℕ) → item_at ps m ≡ Some (Some lsa) → test lsa ≡ true
    → ((i : ℕ) (x : List ℕ) → i < m → item_at ps i ≡ Some (Some x) → test x ≡ false) → find test (full ps) ≡ Some lsa
first_is test [] m lsa at pass before = absurd cc
first_is test (None ∷ ps) zero lsa at pass before = absurd cc
first_is test (Some x ∷ ps) zero lsa at pass before =
    let same : x ≡ lsa = cc in
    ap (λ (y : List ℕ). cond (test y) (Some y) (find test (full ps))) same ∙ ap (λ b. cond b (Some lsa) (find test (full ps))) pass
first_is test (None ∷ ps) (suc m) lsa at pass before = first_is test ps m lsa at pass (λ i x lt there. before (suc i) x (omega arith) there)
first_is test (Some x ∷ ps) (suc m) lsa at pass before =
    ap (λ b. cond b (Some x) (find test (full ps))) (before 0 x (omega arith) refl)
    ∙ first_is test ps m lsa at pass (λ i y lt there. before (suc i) y (omega arith) there)

none_is : (test : List ℕ → Bool) (ps : List Slot) → ((i : ℕ) (x : List ℕ) → item_at ps i ≡ Some (Some x) → test x ≡ false) → find test (full ps) ≡ None
none_is test [] h = refl
none_is test (None ∷ ps) h = none_is test ps (λ i x at. h (suc i) x at)
none_is test (Some x ∷ ps) h =
    ap (λ b. cond b (Some x) (find test (full ps))) (h 0 x refl) ∙ none_is test ps (λ i y at. h (suc i) y at)

record Passed (test : List ℕ → Bool) (slot : Option Slot) : Type 0 where
  lsa : List ℕ
  is : slot ≡ Some (Some lsa)
  pass : test lsa ≡ true

passed : (test : List ℕ → Bool) (slot : Option Slot) → passes test slot ≡ true → Passed test slot
passed test None pass = absurd cc
passed test (Some None) pass = absurd cc
passed test (Some (Some lsa)) pass = record { lsa = lsa; is = refl; pass = pass }

there_slot : (d : Slots) (section i : ℕ) (p : Slot) → slot_at d (slot_of section i) ≡ Some p → item_at (slots_in d section) i ≡ Some p
there_slot d section i p e = by_item (item_at d section) e where
  by_item : (o : Option SectionSlots) → slot_in o i ≡ Some p → item_at (slots_or_none o) i ≡ Some p
  by_item None e = absurd cc
  by_item (Some s) e = e

by_truth : (b : Bool) → (b ≡ true → ⊥) → b ≡ false
by_truth true h = absurd (h refl)
by_truth false h = refl

-- ---- candidates, one after another

abbrev IsUpTo : Option ℕ → ℕ → Type 0
IsUpTo first i = IsSomeAnd first (λ m. m ≤ i)

abbrev pub stands_at : Wanted → Slots → ℕ → ℕ → Bool
stands_at w d section i = passes (is_wanted w) (slot_at d (slot_of section i))

abbrev Comes : Wanted → Slots → ℕ → Option ℕ → KeyAt → Type 0
Comes w d section first noted = is_wanted_by_key w d section noted ≡ true → IsUpTo first noted.index

-- the least index among those noted at which there is a wanted LSA
pub record IsLeast (w : Wanted) (d : Slots) (section : ℕ) (keys : List KeyAt) (first : Option ℕ) : Type 0 where
  pub stands : IfSome first (λ m. passes (is_wanted w) (slot_at d (slot_of section m)) ≡ true)
  pub least : All (λ noted. is_wanted_by_key w d section noted ≡ true → IsSomeAnd first (λ m. m ≤ noted.index)) keys

pub none_yet : (w : Wanted) (d : Slots) (section : ℕ) → IsLeast w d section [] None
none_yet w d section = record { stands = tt; least = All-nil (Comes w d section None) }

lesser_first : (first : Option ℕ) (index i : ℕ) → IsUpTo first i → lesser first index ≤ i
lesser_first None index i h = absurd h
lesser_first (Some m) index i h = omega (arith, h)

lesser_second : (first : Option ℕ) (index : ℕ) → lesser first index ≤ index
lesser_second None index = omega arith
lesser_second (Some m) index = omega arith

lesser_stands : (P : ℕ → Type 0) (first : Option ℕ) (index : ℕ) → IfSome first P → P index → P (lesser first index)
lesser_stands P None index before here = here
lesser_stands P (Some m) index before here = ⊎_elim
    (λ lt. subst P (let e : m ≡ min m index = omega arith in e) before)
    (λ ge. subst P (let e : index ≡ min m index = omega arith in e) here)
    (cases_lt m index)

all_still : (P Q : KeyAt → Type 0) (keys : List KeyAt) → ((e : KeyAt) → P e → Q e) → All P keys → All Q keys
all_still P Q keys step h k d within = step (get_or keys k d) (h k d within)

-- one more is noted
module _ (w : Wanted) (d : Slots) (section : ℕ) (keys : List KeyAt) (noted : KeyAt) (first : Option ℕ) (so_far : IsLeast w d section keys first) where
  all_more : (P : KeyAt → Type 0) → All P keys → P noted → All P (keys ++ noted ∷ [])
  all_more P before one = All-append P keys (noted ∷ []) before (All-cons P noted [] one (All-nil P))

  pub least_hit : (new : ℕ) → new ≡ lesser first noted.index → is_wanted_by_key w d section noted ≡ true
      → IsLeast w d section (keys ++ noted ∷ []) (Some new)
  least_hit new is hit = rw is (record {
    stands = lesser_stands (λ m. stands_at w d section m ≡ true) first noted.index so_far.stands (and_parts _ _ hit).1;
    least =
        all_more (Comes w d section (Some (lesser first noted.index)))
        (all_still (Comes w d section first) (Comes w d section (Some (lesser first noted.index))) keys
        (λ other comes there. lesser_first first noted.index other.index (comes there)) so_far.least)
        (λ _. lesser_second first noted.index);
  })

  pub least_miss : is_wanted_by_key w d section noted ≡ false → IsLeast w d section (keys ++ noted ∷ []) first
  least_miss miss = record {
    stands = so_far.stands;
    least = all_more (Comes w d section first) so_far.least (λ there. absurd (let no' : true ≡ false = sym there ∙ miss in cc));
  }

-- ---- the first of a section

-- a wanted LSA is here, and none before it
pub first_at : (w : Wanted) (d : Slots) (section m : ℕ) → passes (is_wanted w) (slot_at d (slot_of section m)) ≡ true
    → ((i : ℕ) (x : List ℕ) → item_at (slots_in d section) i ≡ Some (Some x) → is_wanted w x ≡ true → m ≤ i)
    → IsFirstSlot d section (is_wanted w) (slot_of section m)
first_at w d section m stands up_to =
    let has = passed (is_wanted w) (slot_at d (slot_of section m)) stands in
    let at = there_slot d section m (Some has.lsa) has.is in
    let one : find (is_wanted w) (lsas_in d section) ≡ Some has.lsa =
    ap (find (is_wanted w)) (lsas_full d section)
    ∙ first_is (is_wanted w) (slots_in d section) m has.lsa at has.pass
    (λ i x lt there. by_truth (is_wanted w x) (λ pass. let le : m ≤ i = up_to i x there pass in absurd (omega arith))) in
    record { same = refl; held = has.is ∙ ap (λ (o : Slot). Some o) (sym one); found = some_is (find (is_wanted w) (lsas_in d section)) has.lsa one }
  where
    some_is : (o : Option (List ℕ)) (x : List ℕ) → o ≡ Some x → IsSome o
    some_is None x e = absurd cc
    some_is (Some y) x e = refl

-- there is no wanted LSA
pub none_at : (w : Wanted) (d : Slots) (section : ℕ)
    → ((i : ℕ) (x : List ℕ) → item_at (slots_in d section) i ≡ Some (Some x) → is_wanted w x ≡ true → ⊥)
    → find (is_wanted w) (lsas_in d section) ≡ None
none_at w d section none =
    ap (find (is_wanted w)) (lsas_full d section)
    ∙ none_is (is_wanted w) (slots_in d section) (λ i x at. by_truth (is_wanted w x) (none i x at))

-- ---- all of them

module _ (w : Wanted) (d : Slots) (section : ℕ) (low high : Key) (keys : List KeyAt) (first : Option ℕ)
    (keyed : AreKeysBetween (slots_in d section) low high keys) (covered : HaveKeysBetween (λ lsa. is_wanted w lsa ≡ true) low high)
    (found : IsLeast w d section keys first) where
  -- a wanted LSA is not before the one that was found
  up_to : (i : ℕ) (lsa : List ℕ) → item_at (slots_in d section) i ≡ Some (Some lsa) → is_wanted w lsa ≡ true → IsUpTo first i
  up_to i lsa at pass =
      let there : stands_at w d section i ≡ true = ap (passes (is_wanted w)) (slot_there d section i (Some lsa) at) ∙ pass in
      let contained = keyed.whole i lsa at (covered lsa (keyed.widths i lsa at) pass) in
      All-contains (Comes w d section first) keys (record { key = key_of lsa; index = i }) found.least contained
      (and_from _ _ (has_marked_key w lsa pass) there)

  pub none_first : first ≡ None → find (is_wanted w) (lsas_in d section) ≡ None
  none_first is = none_at w d section (λ i x at pass. subst (λ (o : Option ℕ). IsUpTo o i) is (up_to i x at pass))

  pub first_slot : (m : ℕ) → first ≡ Some m → IsFirstSlot d section (is_wanted w) (slot_of section m)
  first_slot m is =
      first_at w d section m (subst (λ (o : Option ℕ). IfSome o (λ k. stands_at w d section k ≡ true)) is found.stands)
      (λ i x at pass. subst (λ (o : Option ℕ). IsUpTo o i) is (up_to i x at pass))
