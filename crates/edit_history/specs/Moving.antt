-- The edits that a history last moved over, and what it was before: they were carried out, or taken back.
use Rattle.std.specs.Prelude.{◌≡◌, ℕ, Bool, List, Some, IsSome, take}
use Rattle.lsa_codec.specs.declared.address.AreaId.{AreaId}
use Rattle.lsdb.specs.declared.slot.SlotId.{SlotId}
use Rattle.lsdb.specs.Lists.{IsDatabase}
use Rattle.lsdb.specs.Slots.{Slots, lists_of, put, slot_at}
use Rattle.edit_history.specs.declared.moved.Moved.{Moved}
use Rattle.edit_history.specs.declared.moved.Moved.TheVariants.{Back, On}
use Rattle.edit_history.specs.Exchange.{RecordData}
use Rattle.edit_history.specs.Journal.{HistoryData}
use Rattle.edit_history.specs.Session.{Session, moved_back, moved_on, redo_touches, session_of, state, undo_touches}

-- the session before
abbrev pub before : Moved → Session → Session
before (On count) s = moved_back count s
before (Back count) s = moved_on count s

-- whether one of the edits touches an area
abbrev pub moved_touches : Moved → AreaId → Session → Bool
moved_touches (On count) area s = undo_touches count area s
moved_touches (Back count) area s = redo_touches count area s

-- the records of the edits, those next to the others first
abbrev pub moved_records : Moved → HistoryData → List RecordData
moved_records (On count) h = take count h.past
moved_records (Back count) h = take count h.future

-- the database differs from the one before in this slot alone, where this LSA was
pub record IsOneChange (moved : Moved) (d : Slots) (h : HistoryData) (slot : SlotId) (lsa : List ℕ) : Type 0 where
  pub there : IsSome (slot_at d slot)
  pub leads_from : state (before moved (session_of d h)) ≡ lists_of (put d slot (Some lsa))
  pub sound : IsDatabase (lists_of (put d slot (Some lsa)))
