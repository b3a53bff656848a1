-- Slots, some of them empty, and the database that the full ones make.
use Rattle.std.specs.Prelude.{◌≡◌, Bool, length, ℕ, zero, suc, List, [], ◌∷◌, ◌++◌, map, Option, Some, None, IsSome}
use Rattle.std.specs.List.{find, slice_get}
use Rattle.lsa_codec.specs.declared.key.Key.{Key}
use Rattle.lsdb.specs.Lists.{AreaHead, SectionLsas, Lists, has_key, is_section, lsas_of}
pub use Rattle.lsdb.specs.Lists.{lsas_or_none}
use Rattle.lsdb.specs.declared.section.Section.{Section}
use Rattle.lsdb.specs.declared.slot.SlotId.{SlotId}

-- an LSA, or nothing
abbrev pub Slot : Type 0
Slot = Option (List ℕ)

-- the slots of one area, or, without an area, of the LSAs of AS scope
pub record SectionSlots : Type 0 where
  pub area : Option AreaHead
  pub slots : List Slot

-- the areas in order, and the LSAs of AS scope at the end
abbrev pub Slots : Type 0
Slots = List SectionSlots

-- the LSAs of the full slots, in order
abbrev pub full : List Slot → List (List ℕ)
full [] = []
full (None ∷ ps) = full ps
full (Some x ∷ ps) = x ∷ full ps

abbrev pub section_of : SectionSlots → SectionLsas
section_of s = record { area = s.area; lsas = full s.slots }

-- the database that the slots show
abbrev pub lists_of : Slots → Lists
lists_of d = map section_of d

-- ---- one slot

-- the item at i, if there is one
abbrev pub item_at : {X : Type 0} → List X → ℕ → Option X
item_at xs i = slice_get xs i

-- the list with f of its item at i
abbrev pub update_at : {X : Type 0} → (X → X) → List X → ℕ → List X
update_at f [] i = []
update_at f (x ∷ xs) zero = f x ∷ xs
update_at f (x ∷ xs) (suc i) = x ∷ update_at f xs i

abbrev pub slot_in : Option SectionSlots → ℕ → Option Slot
slot_in None i = None
slot_in (Some s) i = item_at s.slots i

-- the content of a slot, if the slot exists
abbrev pub slot_at : Slots → SlotId → Option Slot
slot_at d slot = slot_in (item_at d slot.section) slot.index

abbrev pub lsa_or_none : Option Slot → Option (List ℕ)
lsa_or_none None = None
lsa_or_none (Some slot) = slot

-- the LSA at a slot: none where the slot is empty, and where there is no such slot
abbrev pub lsa_at : Slots → SlotId → Option (List ℕ)
lsa_at d slot = lsa_or_none (slot_at d slot)

abbrev pub put_slot : Slot → List Slot → ℕ → List Slot
put_slot v ps i = update_at (λ _. v) ps i

-- the slots, with v in one of them
abbrev pub put : Slots → SlotId → Slot → Slots
put d slot v = update_at (λ s. record { area = s.area; slots = put_slot v s.slots slot.index }) d slot.section

-- ---- one section, by its number

abbrev pub slots_or_none : Option SectionSlots → List Slot
slots_or_none None = []
slots_or_none (Some s) = s.slots

abbrev pub head_or_none : Option SectionSlots → Option AreaHead
head_or_none None = None
head_or_none (Some s) = s.area

-- the slots of a section
abbrev pub slots_in : Slots → ℕ → List Slot
slots_in d section = slots_or_none (item_at d section)

-- the LSAs of a section
abbrev pub lsas_in : Slots → ℕ → List (List ℕ)
lsas_in d section = lsas_or_none (item_at (lists_of d) section)

-- an empty slot at the end of a section
abbrev pub open_at : Slots → ℕ → Slots
open_at d section = update_at (λ s. record { area = s.area; slots = s.slots ++ None ∷ [] }) d section

-- the slot of the first LSA of a section that passes a test
pub record IsFirstSlot (d : Slots) (section : ℕ) (test : List ℕ → Bool) (slot : SlotId) : Type 0 where
  pub same : slot.section ≡ section
  pub held : slot_at d slot ≡ Some (find test (lsas_in d section))
  pub found : IsSome (find test (lsas_in d section))

-- ---- one section, by its name

-- the section with that number is the one of that name
pub record IsNamed (d : Slots) (name : Section) (section : ℕ) : Type 0 where
  pub same : item_at (lists_of d) section ≡ find (is_section name) (lists_of d)
  pub exists : IsSome (item_at (lists_of d) section)

-- the slot of the LSA with a key in the section of that name
pub record IsSlotOf (d : Slots) (name : Section) (key : Key) (slot : SlotId) : Type 0 where
  pub named : IsNamed d name slot.section
  pub held : slot_at d slot ≡ Some (find (has_key key) (lsas_of name (lists_of d)))
  pub found : IsSome (find (has_key key) (lsas_of name (lists_of d)))

-- an empty slot was opened after the others of the section of that name
pub record OpensSlot (old new : Slots) (name : Section) (slot : SlotId) : Type 0 where
  pub named : IsNamed old name slot.section
  pub last : slot.index ≡ length (slots_in old slot.section)
  pub opened : new ≡ open_at old slot.section
  pub empty : slot_at new slot ≡ Some None
