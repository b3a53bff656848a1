-- One more slot of a section, and one more section, whose changes are collected.
use Rattle.std.proofs.Common.{◌≡◌, ℕ, suc, ◌+◌, ◌<◌, ◌≤◌, Bool, List, [], ◌∷◌, ◌++◌, length, drop, get_or, append_assoc, append-nil, Option, Some, None}
use Rattle.std.proofs.Common.{refl, sym, ap, ◌∙◌, arith}
use Rattle.std.specs.Prelude.{IsSome, is_some, option_to_list}
use Rattle.std.specs.List.{cons_option}
use Rattle.std.specs.Option.{option_map}
use Rattle.std.proofs.lemmas.List.{drop_all, drop_more}
use Rattle.std.proofs.lemmas.Option.{slice_get-get_or}
use Rattle.lsa_codec.specs.declared.address.AreaId.{AreaId}
use Rattle.lsdb.specs.declared.section.Section.{Section}
use Rattle.lsdb.specs.declared.section.Section.TheVariants.{Area}
use Rattle.lsdb.specs.Lists.{AreaHead, Lists, id_and_kind}
use Rattle.lsdb.specs.Slots.{Slot, Slots, SectionSlots, item_at, slot_at, slot_in, slots_in, slots_or_none, head_or_none, lists_of}
use Rattle.event_links.specs.declared.selection.LinkEdit.{LinkEdit}
use Rattle.event_links.specs.Selections.{ChosenData, chosen_in, id_of}
use Rattle.event_lsas.specs.LinkEvents.{outcome_of}
use Rattle.event_lsas.specs.Outcomes.{LsaChange, kept, Outcome, section_name, where_chosen, SlotChangeData}
use Rattle.event_lsas.specs.SlotChanges.{slot_change, change_at, slot_of, section_changes, changes_from}

-- ---- one item of a list

-- the item at a place, and what follows it
record Here {X : Type 0} (xs : List X) (i j : ℕ) : Type 0 where
  item : X
  at : item_at xs i ≡ Some item
  rest : drop i xs ≡ item ∷ drop j xs

here : {X : Type 0} (other : X) (xs : List X) (i j : ℕ) → i < length xs → j ≡ suc i → Here xs i j
here other xs i j lt e =
    let next : i + 1 ≡ j = omega (arith, e) in
    record {
      item = get_or xs i other;
      at = slice_get-get_or xs i other lt;
      rest = drop_more xs i other lt ∙ ap (λ (k : ℕ). get_or xs i other ∷ drop k xs) next;
    }

-- a section that stands for none
none : SectionSlots
none = record { area = None; slots = [] }

pub exists_at : (d : Slots) (i : ℕ) → i < length d → IsSome (item_at d i)
exists_at d i lt = ap is_some (slice_get-get_or d i none lt)

slot_there : (d : Slots) (section i : ℕ) (p : Slot) → item_at (slots_in d section) i ≡ Some p → slot_at d (slot_of section i) ≡ Some p
slot_there d section i p e = by_item (item_at d section) e where
  by_item : (o : Option SectionSlots) → item_at (slots_or_none o) i ≡ Some p → slot_in o i ≡ Some p
  by_item None e = absurd cc
  by_item (Some s) e = e

-- ---- one slot

module _ (change : List ℕ → LsaChange) (section : ℕ) (name : Section) where
  changes_at : (i : ℕ) (p : Slot) (rest : List Slot)
      → section_changes change section name i (p ∷ rest)
      ≡ option_to_list (change_at change (slot_of section i) name (Some p)) ++ section_changes change section name (suc i) rest
  changes_at i None rest = refl
  changes_at i (Some x) rest = by_change (slot_change (slot_of section i) name x (change x)) where
    by_change : (o : Option SlotChangeData) → cons_option o (section_changes change section name (suc i) rest)
        ≡ option_to_list o ++ section_changes change section name (suc i) rest
    by_change None = refl
    by_change (Some c) = refl

  pub slot_turn : (d : Slots) (i j : ℕ) (old new total : List SlotChangeData) → i < length (slots_in d section) → j ≡ suc i
      → new ≡ old ++ option_to_list (change_at change (slot_of section i) name (slot_at d (slot_of section i)))
      → old ++ section_changes change section name i (drop i (slots_in d section)) ≡ total
      → new ++ section_changes change section name j (drop j (slots_in d section)) ≡ total
  slot_turn d i j old new total lt e pushed so_far =
      let h = here None (slots_in d section) i j lt e in
      let rest : List Slot = drop j (slots_in d section) in
      ap (λ (cs : List SlotChangeData). cs ++ section_changes change section name j rest) pushed
      ∙ append_assoc old (option_to_list (change_at change (slot_of section i) name (slot_at d (slot_of section i)))) (section_changes change section name j rest)
      ∙ ap (λ (o : Option Slot). old ++ (option_to_list (change_at change (slot_of section i) name o) ++ section_changes change section name j rest))
      (slot_there d section i h.item h.at)
      ∙ ap (λ (k : ℕ). old ++ (option_to_list (change_at change (slot_of section i) name (Some h.item)) ++ section_changes change section name k rest)) e
      ∙ ap (λ (cs : List SlotChangeData). old ++ cs) (sym (changes_at i h.item rest))
      ∙ ap (λ (ps : List Slot). old ++ section_changes change section name i ps) (sym h.rest)
      ∙ so_far

  pub slot_end : (d : Slots) (i : ℕ) (changes total : List SlotChangeData) → length (slots_in d section) ≤ i
      → changes ++ section_changes change section name i (drop i (slots_in d section)) ≡ total → changes ≡ total
  slot_end d i changes total end so_far =
      sym (ap (λ (ps : List Slot). changes ++ section_changes change section name i ps) (drop_all i (slots_in d section) end) ∙ append-nil changes) ∙ so_far

  -- where all LSAs are kept
  none_changed : (i : ℕ) (ps : List Slot) → ((x : List ℕ) → change x ≡ kept) → section_changes change section name i ps ≡ []
  none_changed i [] all = refl
  none_changed i (None ∷ ps) all = none_changed (suc i) ps all
  none_changed i (Some x ∷ ps) all =
      ap (λ (c : LsaChange). cons_option (slot_change (slot_of section i) name x c) (section_changes change section name (suc i) ps)) (all x)
      ∙ none_changed (suc i) ps all

-- ---- one section

module _ (outcome : Outcome) where
  pub section_turn : (d : Slots) (i j : ℕ) (old new total : List SlotChangeData) → i < length d → j ≡ suc i
      → new ≡ old ++ section_changes (outcome (head_or_none (item_at d i))) i (section_name (head_or_none (item_at d i))) 0 (slots_in d i)
      → old ++ changes_from outcome i (drop i d) ≡ total → new ++ changes_from outcome j (drop j d) ≡ total
  section_turn d i j old new total lt e pushed so_far =
      let h = here none d i j lt e in
      ap (λ (cs : List SlotChangeData). cs ++ changes_from outcome j (drop j d))
      (pushed ∙ ap (λ (o : Option SectionSlots). old ++ section_changes (outcome (head_or_none o)) i (section_name (head_or_none o)) 0 (slots_or_none o)) h.at)
      ∙ append_assoc old (section_changes (outcome h.item.area) i (section_name h.item.area) 0 h.item.slots) (changes_from outcome j (drop j d))
      ∙ ap (λ (k : ℕ). old ++ (section_changes (outcome h.item.area) i (section_name h.item.area) 0 h.item.slots ++ changes_from outcome k (drop j d))) e
      ∙ ap (λ (ls : Slots). old ++ changes_from outcome i ls) (sym h.rest)
      ∙ so_far

  pub section_end : (d : Slots) (i : ℕ) (changes total : List SlotChangeData) → length d ≤ i
      → changes ++ changes_from outcome i (drop i d) ≡ total → changes ≡ total
  section_end d i changes total end so_far =
      sym (ap (λ (ls : Slots). changes ++ changes_from outcome i ls) (drop_all i d end) ∙ append-nil changes) ∙ so_far

-- ---- a section by its area

area_of : AreaId → Option (AreaId × Bool) → AreaId
area_of other None = other
area_of other (Some named) = named.0

module _ (db : Lists) (e : LinkEdit) (k : ℕ) (ps : List Slot) where
  abbrev changes_in : Option AreaHead → List SlotChangeData
  changes_in head = section_changes (outcome_of db e head) k (section_name head) 0 ps

  -- the LSAs of AS scope are kept
  pub none_as_wide : (head : Option AreaHead) (old : List SlotChangeData) → None ≡ option_map id_and_kind head → old ≡ old ++ changes_in head
  none_as_wide None old is =
      sym (ap (λ (cs : List SlotChangeData). old ++ cs) (none_changed (outcome_of db e None) k (section_name None) 0 ps (λ x. refl)) ∙ append-nil old)
  none_as_wide (Some head) old is = absurd cc

  -- those of an area change where its links are chosen
  pub of_area : (head : Option AreaHead) (area : AreaId) (kind : Bool) → Some (area, kind) ≡ option_map id_and_kind head
      → section_changes (where_chosen e.change (chosen_in db area e.selection)) k (Area area) 0 ps ≡ changes_in head
  unfolding area_of
  of_area None area kind is = absurd cc
  of_area (Some head) area kind is =
      let same : area ≡ id_of head = ap (area_of area) is in
      ap (λ (a : AreaId). section_changes (where_chosen e.change (chosen_in db a e.selection)) k (Area a) 0 ps) same

  -- the slots of an area by its chosen links, after those before it
  pub of_chosen : (head : Option AreaHead) (area : AreaId) (kind : Bool) (chosen : ChosenData) (old new : List SlotChangeData)
      → Some (area, kind) ≡ option_map id_and_kind head → chosen ≡ chosen_in db area e.selection
      → new ≡ old ++ section_changes (where_chosen e.change chosen) k (Area area) 0 ps → new ≡ old ++ changes_in head
  of_chosen head area kind chosen old new named is added =
      added
      ∙ ap (λ (of : ChosenData). old ++ section_changes (where_chosen e.change of) k (Area area) 0 ps) is
      ∙ ap (λ (cs : List SlotChangeData). old ++ cs) (of_area head area kind named)
