-- What a plan finds before anything is exchanged, and the swaps that carry fates out.
use Rattle.std.specs.Prelude.{◌≡◌, ℕ, suc, Bool, false, List, [], ◌∷◌, ◌++◌, Option, Some, None, MatchOption, Result, Ok, Err, unwrap_or}
use Rattle.std.specs.List.{find, cons_option}
use Rattle.lsa_codec.specs.Fields.{kind_of}
use Rattle.lsdb.specs.declared.section.Section.{Section}
use Rattle.lsdb.specs.declared.slot.SlotId.{SlotId}
use Rattle.lsdb.specs.Lists.{lsas_of, is_network}
use Rattle.lsdb.specs.Slots.{Slot, Slots, slot_at, lists_of, lsas_in, IsFirstSlot, IsNamed, OpensSlot}
use Rattle.edit_script.specs.declared.edit.Edit.{Edit}
use Rattle.edit_history.specs.declared.fault.EditFault.{EditFault}
use Rattle.edit_history.specs.declared.lookup.Wanted.{Wanted}
use Rattle.edit_history.specs.declared.lookup.Wanted.TheVariants as wanted
use Rattle.edit_history.specs.Rules.{Change, Fate, stays, removed, rewritten, Fates, section_name}
use Rattle.edit_history.specs.Effect.{is_originated_for}
use Rattle.edit_history.specs.Exchange.{SwapData}
use Rattle.edit_history.specs.Applied.{Planned, IsRefused}

-- the swaps of an edit, or its refusal
abbrev pub IsPlan : {V : Type 0} → Slots → Slots → Edit → (V → List SwapData) → Result V EditFault → Type 0
IsPlan d e edit swaps_of (Ok swaps) = Planned d e edit (swaps_of swaps)
IsPlan d e edit swaps_of (Err fault) = IsRefused d edit fault

-- ---- LSAs that are looked up

-- the first LSA of a section that passes a test, and its slot
pub record IsFirstLsa (d : Slots) (name : Section) (test : List ℕ → Bool) (slot : SlotId) (lsa : List ℕ) : Type 0 where
  pub named : IsNamed d name slot.section
  pub first : find test (lsas_of name (lists_of d)) ≡ Some lsa
  pub held : slot_at d slot ≡ Some (Some lsa)

-- the slot of the first LSA of a section that passes a test, by the section's number; none where no LSA passes
abbrev pub IsSlotOfFirst : Slots → ℕ → (List ℕ → Bool) → Option SlotId → Type 0
IsSlotOfFirst d section test found = MatchOption found (find test (lsas_in d section) ≡ None) (IsFirstSlot d section test)

-- the test for an LSA that is looked up by more than its key
abbrev pub is_wanted : Wanted → List ℕ → Bool
is_wanted (wanted.Network network) lsa = is_network network lsa
is_wanted (wanted.Summary router prefix) lsa = is_originated_for 3 router prefix lsa
is_wanted (wanted.External router prefix) lsa = is_originated_for 5 router prefix lsa

-- whether there is an LSA at a slot and it passes a test
abbrev pub passes : (List ℕ → Bool) → Option Slot → Bool
passes test None = false
passes test (Some None) = false
passes test (Some (Some lsa)) = test lsa

-- ---- the swaps that carry fates out, by section and slot

abbrev pub swap_for : SlotId → Section → List ℕ → Fate → Option SwapData
swap_for slot name lsa stays = None
swap_for slot name lsa removed = Some (record { slot = slot; section = name; kind = kind_of lsa; other = None })
swap_for slot name lsa (rewritten new) = Some (record { slot = slot; section = name; kind = kind_of lsa; other = Some new })

abbrev pub slot_of : ℕ → ℕ → SlotId
slot_of section index = record { section = section; index = index }

-- the swaps of the slots of a section from an index on
abbrev pub section_swaps : (List ℕ → Fate) → ℕ → Section → ℕ → List Slot → List SwapData
section_swaps fate section name i [] = []
section_swaps fate section name i (None ∷ ps) = section_swaps fate section name (suc i) ps
section_swaps fate section name i (Some lsa ∷ ps) = cons_option (swap_for (slot_of section i) name lsa (fate lsa)) (section_swaps fate section name (suc i) ps)

-- the swaps of the sections from a number on
abbrev pub swaps_from : Fates → ℕ → Slots → List SwapData
swaps_from fates section [] = []
swaps_from fates section (s ∷ ss) = section_swaps (fates s.area) section (section_name s.area) 0 s.slots ++ swaps_from fates (suc section) ss

-- the change that a swap is, before it is done
abbrev pub planned_change : Slots → SwapData → Change
planned_change d s = record { section = s.section; kind = s.kind; old = unwrap_or (slot_at d s.slot) None; new = s.other }

-- the swap that carries a fate out at a slot
abbrev pub slot_swap : (List ℕ → Fate) → SlotId → Section → Option Slot → Option SwapData
slot_swap fate slot name None = None
slot_swap fate slot name (Some None) = None
slot_swap fate slot name (Some (Some lsa)) = swap_for slot name lsa (fate lsa)

-- ---- new LSAs

-- a slot was opened at the end of a section, and the only swap fills it with a new LSA
pub record Opens (d e : Slots) (name : Section) (lsa : List ℕ) (swaps : List SwapData) : Type 0 where
  pub slot : SlotId
  pub opens : OpensSlot d e name slot
  pub swap : swaps ≡ (record { slot = slot; section = name; kind = kind_of lsa; other = Some lsa }) ∷ []
