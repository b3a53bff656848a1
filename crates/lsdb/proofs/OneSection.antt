-- The slots of one section: what is found there by its key, and what an exchange of one slot leaves.
use Rattle.std.proofs.Common.{◌≡◌, ℕ, zero, suc, ◌<◌, ◌≤◌, Bool, true, false, cond, List, [], ◌∷◌, map, length, get_or, set, Option, Some, None, refl, sym, ap, ◌∙◌, arith}
use Rattle.std.specs.Prelude.{◌≢◌, All, IsSome}
use Rattle.std.specs.List.{find}
use Rattle.std.proofs.lemmas.List.Elements.{All-nil, All-cons, All-contains, All-head, All-tail}
use Rattle.lsa_codec.specs.declared.key.Key.{Key}
use Rattle.lsa_codec.specs.Key.{key_of}
use Rattle.lsdb.specs.declared.counts.LsaCounts.{LsaCounts}
use Rattle.lsdb.specs.declared.slot_index.SlotOf.{SlotOf}
use Rattle.lsdb.specs.Counts.{counts_of}
use Rattle.lsdb.specs.KeyRanges.{AreKeysBetween, HaveWidths, is_between}
use Rattle.lsdb.specs.Lists.{has_key}
use Rattle.lsdb.specs.Slots.{Slot, item_at, put_slot, full}
use Rattle.lsdb.specs.steps.Counting.{CanAdd, CanTake, with_counts, without_counts}
use Rattle.lsdb.specs.steps.OneSection.{AreApart, FitSection}
use Rattle.lsdb.specs.steps.OneSlot.{some_has_key, IsFirstIndex}
use Rattle.lsdb.proofs.CountedLsas.{counts_at, counts_fit, counts_put}
use Rattle.lsdb.proofs.KeyLemmas.{same_key_true}
use Rattle.lsdb.proofs.Middle.{pairs_head, pairs_tail}
use Rattle.lsdb.proofs.Searching.{turn}
use Rattle.lsdb.proofs.Seen.{slot_set}

-- ---- one key, one slot

apart_after : (ps : List Slot) (j : ℕ) (b : List ℕ) (key : Key) → All (λ k. key ≢ k) (map key_of (full ps)) → item_at ps j ≡ Some (Some b) → key ≢ key_of b
apart_after [] j b key all at = absurd cc
apart_after (None ∷ ps) zero b key all at = absurd cc
apart_after (Some x ∷ ps) zero b key all at =
    let same : x ≡ b = cc in
    λ e. All-head (λ k. key ≢ k) (key_of x) (map key_of (full ps)) all (e ∙ ap key_of (sym same))
apart_after (None ∷ ps) (suc j) b key all at = apart_after ps j b key all at
apart_after (Some x ∷ ps) (suc j) b key all at =
    apart_after ps j b key (All-tail (λ k. key ≢ k) (key_of x) (map key_of (full ps)) all) at

one_slot : (ps : List Slot) → AreApart ps → (i j : ℕ) (a b : List ℕ) → item_at ps i ≡ Some (Some a) → item_at ps j ≡ Some (Some b) → key_of a ≡ key_of b → i ≡ j
one_slot [] apart i j a b at_i at_j same = absurd cc
one_slot (None ∷ ps) apart zero j a b at_i at_j same = absurd cc
one_slot (None ∷ ps) apart (suc i) zero a b at_i at_j same = absurd cc
one_slot (None ∷ ps) apart (suc i) (suc j) a b at_i at_j same = ap suc (one_slot ps apart i j a b at_i at_j same)
one_slot (Some x ∷ ps) apart zero zero a b at_i at_j same = refl
one_slot (Some x ∷ ps) apart zero (suc j) a b at_i at_j same =
    let is : x ≡ a = cc in
    absurd (apart_after ps j b (key_of x) (pairs_head (λ k l. k ≢ l) (key_of x) (map key_of (full ps)) apart) at_j (ap key_of is ∙ same))
one_slot (Some x ∷ ps) apart (suc i) zero a b at_i at_j same =
    let is : x ≡ b = cc in
    absurd (apart_after ps i a (key_of x) (pairs_head (λ k l. k ≢ l) (key_of x) (map key_of (full ps)) apart) at_i (ap key_of is ∙ sym same))
one_slot (Some x ∷ ps) apart (suc i) (suc j) a b at_i at_j same =
    ap suc (one_slot ps (pairs_tail (λ k l. k ≢ l) (key_of x) (map key_of (full ps)) apart) i j a b at_i at_j same)

-- ---- finding

none_found : (ps : List Slot) (key : Key) → ((j : ℕ) (x : List ℕ) → item_at ps j ≡ Some (Some x) → has_key key x ≡ false) → find (has_key key) (full ps) ≡ None
none_found [] key h = refl
none_found (None ∷ ps) key h = none_found ps key (λ j x at. h (suc j) x at)
none_found (Some x ∷ ps) key h =
    ap (λ b. cond b (Some x) (find (has_key key) (full ps))) (h 0 x refl) ∙ none_found ps key (λ j y at. h (suc j) y at)

first_found : (ps : List Slot) (i : ℕ) (lsa : List ℕ) (key : Key) → item_at ps i ≡ Some (Some lsa) → has_key key lsa ≡ true
    → ((j : ℕ) (x : List ℕ) → j < i → item_at ps j ≡ Some (Some x) → has_key key x ≡ false) → find (has_key key) (full ps) ≡ Some lsa
first_found [] i lsa key at has before = absurd cc
first_found (None ∷ ps) zero lsa key at has before = absurd cc
first_found (Some x ∷ ps) zero lsa key at has before =
    let same : x ≡ lsa = cc in
    ap (λ (y : List ℕ). cond (has_key key y) (Some y) (find (has_key key) (full ps))) same ∙ ap (λ b. cond b (Some lsa) (find (has_key key) (full ps))) has
first_found (None ∷ ps) (suc i) lsa key at has before = first_found ps i lsa key at has (λ j x lt at_j. before (suc j) x (omega arith) at_j)
first_found (Some x ∷ ps) (suc i) lsa key at has before =
    ap (λ b. cond b (Some x) (find (has_key key) (full ps))) (before 0 x (omega arith) refl)
    ∙ first_found ps i lsa key at has (λ j y lt at_j. before (suc j) y (omega arith) at_j)

by_truth : (b : Bool) → (b ≡ true → ⊥) → b ≡ false
by_truth true h = absurd (h refl)
by_truth false h = refl

-- an LSA that has the key is the first
pub found_at : (ps : List Slot) (key : Key) (i : ℕ) → AreApart ps → some_has_key key (item_at ps i) ≡ true → IsFirstIndex ps (has_key key) i
found_at ps key i apart has = by_slot (item_at ps i) refl has where
  some_is : (o : Slot) (x : List ℕ) → o ≡ Some x → IsSome o
  some_is None x e = absurd cc
  some_is (Some y) x e = refl

  by_slot : (o : Option Slot) → item_at ps i ≡ o → some_has_key key o ≡ true → IsFirstIndex ps (has_key key) i
  by_slot None at has_it = absurd cc
  by_slot (Some None) at has_it = absurd cc
  by_slot (Some (Some lsa)) at has_it =
      let first : find (has_key key) (full ps) ≡ Some lsa = first_found ps i lsa key at has_it (λ j x lt at_j. by_truth (has_key key x) (λ other.
      let same : j ≡ i = one_slot ps apart j i x lsa at_j at (same_key_true (key_of x) key other ∙ sym (same_key_true (key_of lsa) key has_it)) in
      absurd (omega arith))) in
      record { held = at ∙ ap (λ (o : Slot). Some o) (sym first); found = some_is (find (has_key key) (full ps)) lsa first }

-- no LSA has the key, where none of the slots that are noted of it has
pub missing : (ps : List Slot) (key : Key) (keys : List (SlotOf Key)) → AreKeysBetween ps key key keys → is_between key key key ≡ true
    → All (λ noted. some_has_key key (item_at ps noted.index) ≡ false) keys → find (has_key key) (full ps) ≡ None
missing ps key keys noted inside none =
    none_found ps key (λ j x at. by_truth (has_key key x) (λ has.
    let same : key_of x ≡ key = same_key_true (key_of x) key has in
    let there = noted.whole j x at (ap (is_between key key) same ∙ inside) in
    let other : some_has_key key (item_at ps j) ≡ false =
    All-contains (λ (p : SlotOf Key). some_has_key key (item_at ps p.index) ≡ false) keys (record { key = key_of x; index = j }) none there in
    let no' : true ≡ false = sym has ∙ sym (ap (some_has_key key) at) ∙ other in
    absurd cc))

-- ---- exchanging

pub count_after : (v : Slot) (ps : List Slot) (n : ℕ) → length (put_slot v ps n) ≡ length ps
count_after v [] n = refl
count_after v (p ∷ ps) zero = refl
count_after v (p ∷ ps) (suc n) = ap suc (count_after v ps n)

pub widths_put : (ps : List Slot) (n : ℕ) (x : Slot) → All HaveWidths (full ps) → All HaveWidths (full (x ∷ [])) → All HaveWidths (full (put_slot x ps n))
widths_put [] n x h here = h
widths_put (None ∷ ps) zero None h here = h
widths_put (None ∷ ps) zero (Some y) h here = All-cons HaveWidths y (full ps) (All-head HaveWidths y [] here) h
widths_put (Some z ∷ ps) zero None h here = All-tail HaveWidths z (full ps) h
widths_put (Some z ∷ ps) zero (Some y) h here = All-cons HaveWidths y (full ps) (All-head HaveWidths y [] here) (All-tail HaveWidths z (full ps) h)
widths_put (None ∷ ps) (suc n) x h here = widths_put ps n x h here
widths_put (Some z ∷ ps) (suc n) x h here =
    All-cons HaveWidths z (full (put_slot x ps n)) (All-head HaveWidths z (full ps) h) (widths_put ps n x (All-tail HaveWidths z (full ps) h) here)

pub no_widths : (p : Slot) → p ≡ None → All HaveWidths (full (p ∷ []))
no_widths p is = rw is (All-nil HaveWidths)

pub own_widths : (p : Slot) (lsa : List ℕ) → p ≡ Some lsa → HaveWidths lsa → All HaveWidths (full (p ∷ []))
own_widths p lsa is wide = rw is (All-cons HaveWidths lsa [] wide (All-nil HaveWidths))

-- ---- as it is written in memory

pub read : (ps : List Slot) (i : ℕ) (p : Slot) → i < length ps → p ≡ get_or ps i p → item_at ps i ≡ Some p
read ps i p lt is = (turn ps i (suc i) p lt refl is).here

pub beyond : (ps : List Slot) (i : ℕ) → length ps ≤ i → item_at ps i ≡ None
beyond [] i far = refl
beyond (p ∷ ps) zero far = absurd (omega arith)
beyond (p ∷ ps) (suc i) far = beyond ps i (omega arith)

pub put_is : (ps qs : List Slot) (n : ℕ) (x v : Slot) → x ≡ v → ps ≡ qs → set ps n x ≡ put_slot v qs n
put_is ps qs n x v e f = slot_set x ps n ∙ ap (λ (p : Slot). put_slot p ps n) e ∙ ap (λ (l : List Slot). put_slot v l n) f

-- what stood there
pub read_is : (ps : List Slot) (n : ℕ) (y z : Slot) → n < length ps → z ≡ get_or ps n z → y ≡ z → item_at ps n ≡ Some y
read_is ps n y z lt is e = read ps n z lt is ∙ ap (λ (p : Slot). Some p) (sym e)

-- and put back
pub put_back : (ps : List Slot) (n : ℕ) (x y : Slot) → item_at ps n ≡ Some y → put_slot y (set ps n x) n ≡ ps
put_back [] n x y at = absurd cc
put_back (p ∷ ps) zero x y at = let same : y ≡ p = cc in ap (λ (q : Slot). q ∷ ps) same
put_back (p ∷ ps) (suc n) x y at = ap (λ (qs : List Slot). p ∷ qs) (put_back ps n x y at)

-- what stands there now
pub set_read : (ps : List Slot) (n : ℕ) (x r : Slot) → n < length ps → r ≡ get_or (set ps n x) n r → r ≡ x
set_read [] n x r lt is = absurd (omega arith)
set_read (p ∷ ps) zero x r lt is = is
set_read (p ∷ ps) (suc n) x r lt is = set_read ps n x r (omega arith) is

-- y stood there
pub taken : (ps : List Slot) (n : ℕ) (y : Slot) (old gone : LsaCounts) → item_at ps n ≡ Some y → old ≡ counts_of (full ps)
    → gone ≡ counts_of (full (y ∷ [])) → CanTake old gone
taken ps n y old gone at counted went = rw (counted, went) (counts_at ps n y y at)

-- and x stands there now, and is read as r
module _ (ps : List Slot) (n : ℕ) (y x r : Slot) (lt : n < length ps) (at : item_at ps n ≡ Some y) (is : r ≡ get_or (set ps n x) n r)
    (old others gone come : LsaCounts) (counted : old ≡ counts_of (full ps)) (went : gone ≡ counts_of (full (y ∷ [])))
    (left : others ≡ without_counts old gone) (came : come ≡ counts_of (full (r ∷ []))) where
  pub added : FitSection (put_slot x ps n) → CanAdd others come
  added sound = rw (left, counted, went, came, set_read ps n x r lt is) (counts_fit ps n y x at sound)

  pub counted_set : (new : LsaCounts) → new ≡ with_counts others come → new ≡ counts_of (full (set ps n x))
  counted_set new now =
      rw (now, left, counted, went, came, set_read ps n x r lt is)
      (sym (counts_put ps n y x at) ∙ ap (λ (l : List Slot). counts_of (full l)) (sym (slot_set x ps n)))
