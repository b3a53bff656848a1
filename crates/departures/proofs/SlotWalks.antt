-- The changes of slots that are passed one by one, and of sections.
use Rattle.std.proofs.Common.{◌≡◌, ◌<◌, ◌≤◌, ℕ, suc, List, [], ◌∷◌, ◌++◌, length, drop, get_or, append_assoc, append-nil, Option, Some, None, refl, sym, ap, ◌∙◌}
use Rattle.std.specs.Prelude.{IsSome, is_some, option_to_list}
use Rattle.std.specs.List.{cons_option}
use Rattle.std.proofs.Math.Seq.{drop-cons}
use Rattle.std.proofs.lemmas.List.{drop_all}
use Rattle.std.proofs.lemmas.Option.{slice_get-get_or}
use Rattle.lsdb.specs.declared.section.Section.{Section}
use Rattle.lsdb.specs.Slots.{Slot, Slots, SectionSlots, item_at, slot_at, slot_in, slots_in, slots_or_none, head_or_none}
use Rattle.event_lsas.specs.Outcomes.{LsaChange, Outcome, section_name, SlotChangeData}
use Rattle.event_lsas.specs.SlotChanges.{slot_change, change_at, slot_of, section_changes, changes_from}

-- ---- the slots of a section

module _ (change : List ℕ → LsaChange) (number : ℕ) (name : Section) where
  -- the change of a slot, and those of the slots from one on
  abbrev pub change_in : Slots → ℕ → List SlotChangeData
  change_in d i = option_to_list (change_at change (slot_of number i) name (slot_at d (slot_of number i)))

  abbrev pub from_slot : Slots → ℕ → List SlotChangeData
  from_slot d i = section_changes change number name i (drop i (slots_in d number))

  before_others : (o : Option SlotChangeData) (cs : List SlotChangeData) → cons_option o cs ≡ option_to_list o ++ cs
  before_others None cs = refl
  before_others (Some c) cs = refl

  first_slot : (i : ℕ) (slot : Slot) (slots : List Slot)
      → section_changes change number name i (slot ∷ slots)
      ≡ option_to_list (change_at change (slot_of number i) name (Some slot)) ++ section_changes change number name (suc i) slots
  first_slot i None slots = refl
  first_slot i (Some lsa) slots = before_others (slot_change (slot_of number i) name lsa (change lsa)) (section_changes change number name (suc i) slots)

  slot_there : (section : Option SectionSlots) (i : ℕ) (slot : Slot) → item_at (slots_or_none section) i ≡ Some slot → slot_in section i ≡ Some slot
  slot_there None i slot at = absurd cc
  slot_there (Some s) i slot at = at

  unrolled : (d : Slots) (i : ℕ) → i < length (slots_in d number) → from_slot d i ≡ change_in d i ++ from_slot d (suc i)
  unrolled d i below =
      let slot : Slot = get_or (slots_in d number) i None in
      let there : slot_at d (slot_of number i) ≡ Some slot = slot_there (item_at d number) i slot (slice_get-get_or (slots_in d number) i None below) in
      ap (section_changes change number name i) (drop-cons (slots_in d number) i None below)
      ∙ first_slot i slot (drop (suc i) (slots_in d number))
      ∙ ap (λ (o : Option Slot). option_to_list (change_at change (slot_of number i) name o)
      ++ section_changes change number name (suc i) (drop (suc i) (slots_in d number))) (sym there)

  -- one more slot is passed
  pub slot_passed : (d : Slots) (i next : ℕ) (found : Option SlotChangeData) (old new all : List SlotChangeData) → i < length (slots_in d number)
      → next ≡ suc i → found ≡ change_at change (slot_of number i) name (slot_at d (slot_of number i)) → new ≡ old ++ option_to_list found
      → old ++ from_slot d i ≡ all → new ++ from_slot d next ≡ all
  slot_passed d i next found old new all below follows is added so_far =
      ap (λ (k : ℕ). new ++ from_slot d k) follows
      ∙ ap (λ (cs : List SlotChangeData). cs ++ from_slot d (suc i)) added
      ∙ ap (λ (o : Option SlotChangeData). (old ++ option_to_list o) ++ from_slot d (suc i)) is
      ∙ append_assoc old (change_in d i) (from_slot d (suc i))
      ∙ sym (ap (λ (cs : List SlotChangeData). old ++ cs) (unrolled d i below))
      ∙ so_far

  -- all are
  pub slots_passed : (d : Slots) (i : ℕ) (found all : List SlotChangeData) → length (slots_in d number) ≤ i → found ++ from_slot d i ≡ all → found ≡ all
  slots_passed d i found all end so_far =
      sym (append-nil found)
      ∙ sym (ap (λ (slots : List Slot). found ++ section_changes change number name i slots) (drop_all i (slots_in d number) end))
      ∙ so_far

-- ---- the sections

no_section : SectionSlots
no_section = record { area = None; slots = [] }

pub is_section : (d : Slots) (i : ℕ) → i < length d → IsSome (item_at d i)
is_section d i below = ap is_some (slice_get-get_or d i no_section below)

module _ (outcome : Outcome) where
  -- the changes of a section, and those of the sections from one on
  abbrev pub changes_in : Slots → ℕ → List SlotChangeData
  changes_in d i =
      let head = head_or_none (item_at d i) in
      section_changes (outcome head) i (section_name head) 0 (slots_in d i)

  abbrev pub from_section : Slots → ℕ → List SlotChangeData
  from_section d i = changes_from outcome i (drop i d)

  of_section : Slots → ℕ → Option SectionSlots → List SlotChangeData
  of_section d i section =
      let head = head_or_none section in
      section_changes (outcome head) i (section_name head) 0 (slots_or_none section)

  unrolled_sections : (d : Slots) (i : ℕ) → i < length d → from_section d i ≡ changes_in d i ++ from_section d (suc i)
  unfolding of_section
  unrolled_sections d i below =
      ap (changes_from outcome i) (drop-cons d i no_section below)
      ∙ ap (λ (o : Option SectionSlots). of_section d i o ++ changes_from outcome (suc i) (drop (suc i) d)) (sym (slice_get-get_or d i no_section below))

  -- one more section is passed
  pub section_passed : (d : Slots) (i next : ℕ) (old new all : List SlotChangeData) → i < length d → next ≡ suc i
      → new ≡ old ++ changes_in d i → old ++ from_section d i ≡ all → new ++ from_section d next ≡ all
  section_passed d i next old new all below follows added so_far =
      ap (λ (k : ℕ). new ++ from_section d k) follows
      ∙ ap (λ (cs : List SlotChangeData). cs ++ from_section d (suc i)) added
      ∙ append_assoc old (changes_in d i) (from_section d (suc i))
      ∙ sym (ap (λ (cs : List SlotChangeData). old ++ cs) (unrolled_sections d i below))
      ∙ so_far

  -- all are
  pub sections_passed : (d : Slots) (i : ℕ) (found all : List SlotChangeData) → length d ≤ i → found ++ from_section d i ≡ all → found ≡ all
  sections_passed d i found all end so_far =
      sym (append-nil found) ∙ sym (ap (λ (rest : Slots). found ++ changes_from outcome i rest) (drop_all i d end)) ∙ so_far
