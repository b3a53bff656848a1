-- What a write in memory changes of what is seen.
use Rattle.std.proofs.Common.{◌≡◌, ℕ, zero, suc, ◌<◌, List, [], ◌∷◌, ◌++◌, length, get_or, Option, Some, None, refl, sym, ap, subst, ◌∙◌, arith, rules}
use Rattle.std.specs.Prelude.{IsSome, slice_set, option_map}
use Rattle.lsdb.specs.declared.slot.SlotId.{SlotId}
use Rattle.lsdb.specs.declared.database.SectionOf.{SectionOf}
use Rattle.std.specs.Prelude.{All}
use Rattle.std.proofs.lemmas.List.Elements.{All-head, All-tail}
use Rattle.lsdb.specs.Lists.{IsSection}
use Rattle.lsdb.specs.Slots.{Slot, Slots, SectionSlots, update_at, item_at, put_slot, put, slot_in, slot_at, open_at, section_of, lists_of}
use Rattle.lsdb.specs.steps.OneSection.{FitSection}
use Rattle.lsdb.specs.declared.database.Head.{Head}
use Rattle.lsdb.specs.steps.View.{head_of, section_slots_of, slots_of}
use Rattle.lsdb.proofs.Walked.{section_few}

pub section_set : {A : Type 0}
    → (f : SectionSlots → SectionSlots) (ss : List (SectionOf A)) (i : ℕ) (old t : SectionOf A)
    → IsSome (item_at (slots_of ss) i) → old ≡ get_or ss i old
    → section_slots_of t ≡ f (section_slots_of old)
    → slots_of (slice_set ss i t) ≡ update_at f (slots_of ss) i
section_set {A} f [] i old t some h e = refl
section_set {A} f (s ∷ ss) zero old t some h e = ap (λ (p : SectionSlots). p ∷ slots_of ss) (e ∙ ap (λ (o : SectionOf A). f (section_slots_of o)) h)
section_set {A} f (s ∷ ss) (suc i) old t some h e = ap (λ (ps : Slots). section_slots_of s ∷ ps) (section_set f ss i old t some h e)

pub slot_set : (v : Slot) (ps : List Slot) (i : ℕ) → slice_set ps i v ≡ put_slot v ps i
slot_set v [] i = refl
slot_set v (p ∷ ps) zero = refl
slot_set v (p ∷ ps) (suc i) = ap (λ (qs : List Slot). p ∷ qs) (slot_set v ps i)

section_exists : (o : Option SectionSlots) (i : ℕ) → IsSome (slot_in o i) → IsSome o
section_exists None i h = h
section_exists (Some s) i h = search rules

slot_read : {A : Type 0} → (ss : List (SectionOf A)) (section i : ℕ) (old : SectionOf A) (w : Slot)
    → IsSome (slot_in (item_at (slots_of ss) section) i) → old ≡ get_or ss section old
    → item_at old.slots i ≡ Some w → slot_in (item_at (slots_of ss) section) i ≡ Some w
slot_read {A} [] section i old w some h e = absurd (search rules)
slot_read {A} (s ∷ ss) zero i old w some h e = ap (λ (o : SectionOf A). item_at o.slots i) (sym h) ∙ e
slot_read {A} (s ∷ ss) (suc section) i old w some h e = slot_read ss section i old w some h e

pub swap_read : {A : Type 0} → (ss : List (SectionOf A)) (slot : SlotId) (old : SectionOf A) (w : Slot)
    → IsSome (slot_at (slots_of ss) slot) → old ≡ get_or ss slot.section old
    → item_at old.slots slot.index ≡ Some w → slot_at (slots_of ss) slot ≡ Some w
swap_read {A} ss slot old w some h e = slot_read ss slot.section slot.index old w some h e

pub swap_put : {A : Type 0} → (ss : List (SectionOf A)) (slot : SlotId) (old t : SectionOf A) (v : Slot)
    → IsSome (slot_at (slots_of ss) slot) → old ≡ get_or ss slot.section old → t.area ≡ old.area
    → t.slots ≡ put_slot v old.slots slot.index
    → slots_of (slice_set ss slot.section t) ≡ put (slots_of ss) slot v
swap_put {A} ss slot old t v some h area items =
    let f : SectionSlots → SectionSlots = λ p. record { area = p.area; slots = put_slot v p.slots slot.index } in
    let same_area = λ (a : Option Head). let p : SectionSlots = record { area = option_map head_of a; slots = t.slots } in p in
    let same_items = λ (ps : List Slot). let p : SectionSlots = record { area = option_map head_of old.area; slots = ps } in p in
    section_set f ss slot.section old t (section_exists (item_at (slots_of ss) slot.section) slot.index some) h
    (ap same_area area ∙ ap same_items items)

pub open_slots : {A : Type 0} → (ss : List (SectionOf A)) (section : ℕ) (old t : SectionOf A)
    → IsSome (item_at (slots_of ss) section) → old ≡ get_or ss section old → t.area ≡ old.area
    → t.slots ≡ old.slots ++ None ∷ []
    → slots_of (slice_set ss section t) ≡ open_at (slots_of ss) section
open_slots {A} ss section old t some h area items =
    let f : SectionSlots → SectionSlots = λ p. record { area = p.area; slots = p.slots ++ None ∷ [] } in
    let same_area = λ (a : Option Head). let p : SectionSlots = record { area = option_map head_of a; slots = t.slots } in p in
    let same_items = λ (ps : List Slot). let p : SectionSlots = record { area = option_map head_of old.area; slots = ps } in p in
    section_set f ss section old t some h (ap same_area area ∙ ap same_items items)

-- nothing was pushed
pub kept_slots : {A : Type 0} → (ss : List (SectionOf A)) (section : ℕ) (old t : SectionOf A)
    → IsSome (item_at (slots_of ss) section) → old ≡ get_or ss section old → t.area ≡ old.area
    → t.slots ≡ old.slots → slots_of (slice_set ss section t) ≡ slots_of ss
kept_slots {A} ss section old t some h area items =
    let same_area = λ (a : Option Head). let p : SectionSlots = record { area = option_map head_of a; slots = t.slots } in p in
    let same_items = λ (ps : List Slot). let p : SectionSlots = record { area = option_map head_of old.area; slots = ps } in p in
    section_set (λ p. p) ss section old t some h (ap same_area area ∙ ap same_items items) ∙ kept (slots_of ss) section where
      kept : (ps : Slots) (i : ℕ) → update_at (λ p. p) ps i ≡ ps
      kept [] i = refl
      kept (p ∷ ps) zero = refl
      kept (p ∷ ps) (suc i) = ap (λ (qs : Slots). p ∷ qs) (kept ps i)

opened_at_end : (ps : List Slot) → item_at (ps ++ None ∷ []) (length ps) ≡ Some None
opened_at_end [] = refl
opened_at_end (p ∷ ps) = opened_at_end ps

pub slot_opened : {A : Type 0} → (ss : List (SectionOf A)) (section : ℕ) (old : SectionOf A)
    → IsSome (item_at (slots_of ss) section) → old ≡ get_or ss section old
    → slot_in (item_at (open_at (slots_of ss) section) section) (length old.slots) ≡ Some None
slot_opened {A} [] section old some h = absurd (search rules)
slot_opened {A} (s ∷ ss) zero old some h = rw h (opened_at_end s.slots)
slot_opened {A} (s ∷ ss) (suc section) old some h = slot_opened ss section old some h

-- ---- what an exchange asks

within_list : (ps : List Slot) (i : ℕ) → IsSome (item_at ps i) → i < length ps
within_list [] i some = absurd (search rules)
within_list (p ∷ ps) zero some = omega arith
within_list (p ∷ ps) (suc i) some = omega (arith, within_list ps i some)

pub slot_within : {A : Type 0} → (ss : List (SectionOf A)) (section i : ℕ) (old : SectionOf A)
    → IsSome (slot_in (item_at (slots_of ss) section) i) → old ≡ get_or ss section old → i < length old.slots
slot_within {A} [] section i old some h = absurd (search rules)
slot_within {A} (s ∷ ss) zero i old some h = subst (λ (o : SectionOf A). i < length o.slots) (sym h) (within_list s.slots i some)
slot_within {A} (s ∷ ss) (suc section) i old some h = slot_within ss section i old some h

-- what stands in a section of a database
section_fits : (s : SectionSlots) → IsSection (section_of s) → FitSection s.slots
section_fits s sound = record { accepted = sound.accepted; few = section_few (section_of s) sound; apart = sound.keys.distinct }

pub slot_fits : {A : Type 0} → (ss : List (SectionOf A)) (slot : SlotId) (old : SectionOf A) (v : Slot)
    → IsSome (slot_at (slots_of ss) slot) → old ≡ get_or ss slot.section old
    → All IsSection (lists_of (put (slots_of ss) slot v)) → FitSection (put_slot v old.slots slot.index)
slot_fits {A} ss slot old v some h sound = fits_in ss slot.section slot.index old v some h sound where
  fits_in : {A : Type 0} → (ss : List (SectionOf A)) (section i : ℕ) (old : SectionOf A) (v : Slot)
      → IsSome (slot_in (item_at (slots_of ss) section) i) → old ≡ get_or ss section old
      → All IsSection (lists_of (put (slots_of ss) (record { section = section; index = i }) v)) → FitSection (put_slot v old.slots i)
  fits_in {A} [] section i old v some h sound = absurd (search rules)
  fits_in {A} (s ∷ ss) zero i old v some h sound =
      let new : SectionSlots = record { area = option_map head_of s.area; slots = put_slot v s.slots i } in
      let first = All-head IsSection (section_of new) (lists_of (slots_of ss)) sound in
      subst (λ (o : SectionOf A). FitSection (put_slot v o.slots i)) (sym h) (section_fits new first)
  fits_in {A} (s ∷ ss) (suc section) i old v some h sound =
      fits_in ss section i old v some h
      (All-tail IsSection (section_of (section_slots_of s)) (lists_of (put (slots_of ss) (record { section = section; index = i }) v)) sound)
