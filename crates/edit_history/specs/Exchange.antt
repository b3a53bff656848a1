-- A record's swaps: each exchanges the LSA that it holds with the one at its slot. They are done from
-- the first to the last, and undone from the last to the first.
use Rattle.std.specs.Prelude.{◌≡◌, ℕ, Bool, List, [], ◌∷◌, None, IsSome, nat_le, unwrap_or}
use Rattle.std.specs.List.{list_any}
use Rattle.lsa_codec.specs.declared.address.AreaId.{AreaId}
use Rattle.lsdb.specs.declared.section.Section.{Section}
use Rattle.lsdb.specs.declared.slot.SlotId.{SlotId}
use Rattle.lsdb.specs.Lists.{IsDatabase}
use Rattle.lsdb.specs.Slots.{Slot, Slots, put, slot_at, lists_of}
use Rattle.edit_script.specs.declared.edit.Edit.{Edit}
use Rattle.edit_history.specs.Effect.{is_of_graph}

-- a slot, the section and the LS type of the LSA there, and the bytes that the database lacks: the old
-- ones once the edit is done, the new ones once it is undone
pub record SwapData : Type 0 where
  pub slot : SlotId
  pub section : Section
  pub kind : ℕ
  pub other : Slot

-- an edit, and its swaps
pub record RecordData : Type 0 where
  pub edit : Edit
  pub swaps : List SwapData

-- whether a router-LSA or network-LSA of the area is among the swaps
abbrev pub touches : AreaId → RecordData → Bool
touches area r = list_any (λ (s : SwapData). is_of_graph area s.section s.kind) r.swaps

-- whether the slot is one of AS scope, in a section after the areas of the database
abbrev pub is_of_as_scope : ℕ → SwapData → Bool
is_of_as_scope areas s = nat_le areas s.slot.section

-- whether an LSA of AS scope is among the swaps
abbrev pub changes_as_scope : ℕ → RecordData → Bool
changes_as_scope areas r = list_any (is_of_as_scope areas) r.swaps

-- the swap once it has taken what is at its slot
abbrev pub taken : Slots → SwapData → SwapData
taken d s = record { slot = s.slot; section = s.section; kind = s.kind; other = unwrap_or (slot_at d s.slot) None }

-- ---- from the first to the last

abbrev pub done_slots : Slots → List SwapData → Slots
done_slots d [] = d
done_slots d (s ∷ ss) = done_slots (put d s.slot s.other) ss

abbrev pub done_swaps : Slots → List SwapData → List SwapData
done_swaps d [] = []
done_swaps d (s ∷ ss) = taken d s ∷ done_swaps (put d s.slot s.other) ss

-- each slot exists, and each state on the way is a database
abbrev pub CanDo : Slots → List SwapData → Type 0
CanDo d [] = Unit {0}
CanDo d (s ∷ ss) = IsSome (slot_at d s.slot) × IsDatabase (lists_of (put d s.slot s.other)) × CanDo (put d s.slot s.other) ss

-- ---- from the last to the first

abbrev pub undone_slots : Slots → List SwapData → Slots
undone_slots d [] = d
undone_slots d (s ∷ ss) = put (undone_slots d ss) s.slot s.other

abbrev pub undone_swaps : Slots → List SwapData → List SwapData
undone_swaps d [] = []
undone_swaps d (s ∷ ss) = taken (undone_slots d ss) s ∷ undone_swaps d ss

abbrev pub CanUndo : Slots → List SwapData → Type 0
CanUndo d [] = Unit {0}
CanUndo d (s ∷ ss) = CanUndo d ss × IsSome (slot_at (undone_slots d ss) s.slot) × IsDatabase (lists_of (put (undone_slots d ss) s.slot s.other))

-- ---- inverses

-- what was done is undone
pub record UndoesAgain (d : Slots) (ss : List SwapData) : Type 0 where
  pub slots : undone_slots (done_slots d ss) (done_swaps d ss) ≡ d
  pub swaps : undone_swaps (done_slots d ss) (done_swaps d ss) ≡ ss
  pub can : CanUndo (done_slots d ss) (done_swaps d ss)

-- what was undone is done again
pub record DoesAgain (d : Slots) (ss : List SwapData) : Type 0 where
  pub slots : done_slots (undone_slots d ss) (undone_swaps d ss) ≡ d
  pub swaps : done_swaps (undone_slots d ss) (undone_swaps d ss) ≡ ss
  pub can : CanDo (undone_slots d ss) (undone_swaps d ss)

-- ---- records

abbrev pub redone : Slots → RecordData → RecordData
redone d r = record { edit = r.edit; swaps = done_swaps d r.swaps }

abbrev pub undone : Slots → RecordData → RecordData
undone d r = record { edit = r.edit; swaps = undone_swaps d r.swaps }
