-- The first wanted LSA, among the slots that are noted of its router and its prefix.
use Rattle.std.proofs.Common.{◌≡◌, ℕ, ◌<◌, ◌≤◌, Bool, true, false, List, [], ◌∷◌, ◌++◌, length, map, take, get_or, Some, None, sym, ap, ◌∙◌, subst, arith, ⊎_elim}
use Rattle.std.specs.Prelude.{All}
use Rattle.std.specs.List.{find}
use Rattle.std.proofs.lemmas.Bool.{cases_lt}
use Rattle.std.proofs.lemmas.List.{get_or-take, get_or_default, length-take, map-id, take_all}
use Rattle.std.proofs.lemmas.List.Elements.{All-append, All-cons, All-nil}
use Rattle.lsa_codec.specs.declared.address.RouterId.{RouterId}
use Rattle.lsa_codec.specs.Prefix.{Net}
use Rattle.lsdb.specs.Slots.{Slots, item_at, lsas_in, slots_in, IsFirstSlot}
use Rattle.lsdb.specs.PrefixSlots.{SlotOfPrefix, prefix_slot, AreSlotsOfPrefix}
use Rattle.edit_history.specs.declared.lookup.Wanted.{Wanted}
use Rattle.edit_history.specs.steps.Plans.{is_wanted, passes, slot_of}
use Rattle.edit_history.specs.steps.Searching.{AreOriginatedFor}
use Rattle.edit_history.proofs.Candidates.{stands_at, first_at, none_at}
use Rattle.edit_history.proofs.Searches.{slot_there}

-- there is no wanted LSA at any of these slots
abbrev pub NoneStands : Wanted → Slots → ℕ → List SlotOfPrefix → Type 0
NoneStands w d section found = All (λ slot. stands_at w d section slot.index ≡ false) found

pub none_first : (w : Wanted) (d : Slots) (section : ℕ) → NoneStands w d section []
none_first w d section = All-nil (λ (slot : SlotOfPrefix). stands_at w d section slot.index ≡ false)

pub none_more : (w : Wanted) (d : Slots) (section : ℕ) (found : List SlotOfPrefix) (e : SlotOfPrefix) → NoneStands w d section found
    → stands_at w d section e.index ≡ false → NoneStands w d section (found ++ e ∷ [])
none_more w d section found e before miss =
    let P : SlotOfPrefix → Type 0 = λ slot. stands_at w d section slot.index ≡ false in
    All-append P found (e ∷ []) before (All-cons P e [] miss (All-nil P))

-- ---- all slots of the router and the prefix

false_and_true : (b : Bool) → b ≡ false → b ≡ true → ⊥
false_and_true b no' yes' = absurd (let e : false ≡ true = sym no' ∙ yes' in cc)

module _ (w : Wanted) (d : Slots) (section : ℕ) (router : RouterId) (net : Net) (found : List SlotOfPrefix)
    (noted : AreSlotsOfPrefix (slots_in d section) router net found) (own : AreOriginatedFor router net (is_wanted w)) where
  -- a wanted LSA is at a slot that is noted
  record IsNoted (i : ℕ) : Type 0 where
    number : ℕ
    within : number < length found
    is : (e : SlotOfPrefix) → (get_or found number e).index ≡ i
    stands : stands_at w d section i ≡ true

  noted_at : (i : ℕ) (x : List ℕ) → item_at (slots_in d section) i ≡ Some (Some x) → is_wanted w x ≡ true → IsNoted i
  noted_at i x at pass =
      let slot : SlotOfPrefix = prefix_slot i router net in
      let origin = own x pass in
      let there = noted.whole i x at origin.0 origin.1 in
      record {
        number = there.0;
        within = there.1;
        is = λ e. ap (λ (p : SlotOfPrefix). p.index) (get_or_default found there.0 e slot there.1 ∙ there.2);
        stands = ap (passes (is_wanted w)) (slot_there d section i (Some x) at) ∙ pass;
      }

  -- it is not among the first i, where none of them is wanted
  beyond : (i k : ℕ) (e : SlotOfPrefix) → NoneStands w d section (take i found) → k < length found
      → stands_at w d section (get_or found k e).index ≡ true → i ≤ k
  beyond i k e before lt stands = ⊎_elim
      (λ less.
      let short : k < length (take i found) = omega (arith, length-take i found) in
      let miss : stands_at w d section (get_or found k e).index ≡ false =
      subst (λ (p : SlotOfPrefix). stands_at w d section p.index ≡ false) (get_or-take i found k e less) (before k e short) in
      absurd (false_and_true (stands_at w d section (get_or found k e).index) miss stands))
      (λ ge. ge)
      (cases_lt k i)

  pub hit : (i : ℕ) (e : SlotOfPrefix) → i < length found → NoneStands w d section (take i found)
      → stands_at w d section (get_or found i e).index ≡ true → IsFirstSlot d section (is_wanted w) (slot_of section (get_or found i e).index)
  hit i e lt before stands = first_at w d section (get_or found i e).index stands (λ j x at pass.
      let n = noted_at j x at pass in
      let le : i ≤ n.number =
      beyond i n.number e before n.within (subst (λ (k : ℕ). stands_at w d section k ≡ true) (sym (n.is e)) n.stands) in
      ⊎_elim
      (λ less. let below = noted.rising i n.number e less n.within in omega (arith, below, n.is e))
      (λ ge. let same : i ≡ n.number = omega arith in omega (arith, n.is e, ap (λ (k : ℕ). (get_or found k e).index) same))
      (cases_lt i n.number))

  -- the next of those that were read
  pub hit_next : (read : List SlotOfPrefix) (e : SlotOfPrefix) → map (λ (slot : SlotOfPrefix). slot) read ≡ take (length read) found
      → length read < length found → e ≡ get_or found (length read) e → NoneStands w d section read → stands_at w d section e.index ≡ true
      → IsFirstSlot d section (is_wanted w) (slot_of section e.index)
  hit_next read e so_far lt here before stands =
      let first = hit (length read) e lt
      (subst (λ (es : List SlotOfPrefix). NoneStands w d section es) (sym (map-id read) ∙ so_far) before)
      (subst (λ (p : SlotOfPrefix). stands_at w d section p.index ≡ true) here stands) in
      subst (λ (p : SlotOfPrefix). IsFirstSlot d section (is_wanted w) (slot_of section p.index)) (sym here) first

  pub miss : (i : ℕ) → length found ≤ i → NoneStands w d section (take i found) → find (is_wanted w) (lsas_in d section) ≡ None
  miss i end before = none_at w d section (λ j x at pass.
      let n = noted_at j x at pass in
      let e : SlotOfPrefix = prefix_slot j router net in
      let le : i ≤ n.number =
      beyond i n.number e before n.within (subst (λ (k : ℕ). stands_at w d section k ≡ true) (sym (n.is e)) n.stands) in
      absurd (omega (arith, n.within)))

  pub miss_all : (read : List SlotOfPrefix) → map (λ (slot : SlotOfPrefix). slot) read ≡ found → NoneStands w d section read
      → find (is_wanted w) (lsas_in d section) ≡ None
  miss_all read all before =
      miss (length found) (omega arith)
      (subst (λ (es : List SlotOfPrefix). NoneStands w d section es) (sym (map-id read) ∙ all ∙ sym (take_all (length found) found (omega arith))) before)
