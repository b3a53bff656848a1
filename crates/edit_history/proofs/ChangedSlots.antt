-- The swaps of the slots that an event changes are those that carry its fates out.
use Rattle.std.proofs.Common.{◌≡◌, ℕ, suc, List, [], ◌∷◌, ◌++◌, map, Option, Some, None, refl, ap, ◌∙◌}
use Rattle.std.specs.List.{cons_option}
use Rattle.std.proofs.lemmas.List.{map-append}
use Rattle.lsa_codec.specs.Fields.{kind_of}
use Rattle.lsdb.specs.declared.section.Section.{Section}
use Rattle.lsdb.specs.Lists.{AreaHead}
use Rattle.lsdb.specs.Slots.{Slot, Slots}
use Rattle.event_lsas.specs.Outcomes.{LsaChange, kept, becomes, Outcome, SlotChangeData, section_name as name_of_section}
use Rattle.event_lsas.specs.SlotChanges.{slot_change, slot_of, section_changes, changes_from}
use Rattle.edit_history.specs.Rules.{Fates, section_name}
use Rattle.edit_history.specs.Events.{fate_of_change}
use Rattle.edit_history.specs.Exchange.{SwapData}
use Rattle.edit_history.specs.steps.Plans.{swap_for, section_swaps, swaps_from}
use Rattle.edit_history.specs.steps.Happening.{swap_by}

section_swapped : (change : List ℕ → LsaChange) (k : ℕ) (name : Section) (i : ℕ) (ps : List Slot)
    → map swap_by (section_changes change k name i ps) ≡ section_swaps (λ x. fate_of_change (change x)) k name i ps
section_swapped change k name i [] = refl
section_swapped change k name i (None ∷ ps) = section_swapped change k name (suc i) ps
section_swapped change k name i (Some x ∷ ps) = by_change (change x) (section_swapped change k name (suc i) ps) where
  later : List SlotChangeData
  later = section_changes change k name (suc i) ps

  rest : List SwapData
  rest = section_swaps (λ y. fate_of_change (change y)) k name (suc i) ps

  by_change : (c : LsaChange) → map swap_by later ≡ rest
      → map swap_by (cons_option (slot_change (slot_of k i) name x c) later) ≡ cons_option (swap_for (slot_of k i) name x (fate_of_change c)) rest
  by_change kept same = same
  by_change (becomes None) same =
      ap (λ (ss : List SwapData). (record { slot = slot_of k i; section = name; kind = kind_of x; other = None }) ∷ ss) same
  by_change (becomes (Some new)) same =
      ap (λ (ss : List SwapData). (record { slot = slot_of k i; section = name; kind = kind_of x; other = Some new }) ∷ ss) same

same_name : (head : Option AreaHead) → name_of_section head ≡ section_name head
same_name None = refl
same_name (Some head) = refl

abbrev pub fates_of : Outcome → Fates
fates_of outcome head x = fate_of_change (outcome head x)

pub all_swapped : (outcome : Outcome) (k : ℕ) (d : Slots) → map swap_by (changes_from outcome k d) ≡ swaps_from (fates_of outcome) k d
all_swapped outcome k [] = refl
all_swapped outcome k (s ∷ ss) =
    let later : List SlotChangeData = changes_from outcome (suc k) ss in
    let here : List SlotChangeData = section_changes (outcome s.area) k (name_of_section s.area) 0 s.slots in
    let mine : List SwapData = section_swaps (fates_of outcome s.area) k (section_name s.area) 0 s.slots in
    map-append swap_by here later
    ∙ ap (λ (xs : List SwapData). xs ++ map swap_by later)
    (section_swapped (outcome s.area) k (name_of_section s.area) 0 s.slots
    ∙ ap (λ (n : Section). section_swaps (fates_of outcome s.area) k n 0 s.slots) (same_name s.area))
    ∙ ap (λ (xs : List SwapData). mine ++ xs) (all_swapped outcome (suc k) ss)
