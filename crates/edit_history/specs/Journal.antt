-- A history: the records of the edits that are done and of those that are undone.
use Rattle.std.specs.Prelude.{ℕ, List, [], ◌∷◌}
use Rattle.lsdb.specs.Lists.{IsDatabase}
use Rattle.lsdb.specs.Slots.{Slots, lists_of}
use Rattle.edit_history.specs.Exchange.{RecordData, done_slots, undone_slots}
use Rattle.edit_history.specs.Applied.{CarriesOut, TakesBack}

-- the records of the done edits, the latest first, and of the undone ones, the next first
pub record HistoryData : Type 0 where
  pub past : List RecordData
  pub future : List RecordData

-- a history, and the number of records that it has room for after the done ones
pub record HistoryRoom : Type 0 where
  pub lists : HistoryData
  pub room : ℕ

-- each done record takes back its edit from the database to which taking back the later records
-- leads
abbrev pub LinksBack : Slots → List RecordData → Type 0
LinksBack d [] = Unit {0}
LinksBack d (r ∷ rs) = TakesBack d r.edit r.swaps × LinksBack (undone_slots d r.swaps) rs

-- each undone record carries its edit out on the database to which the earlier ones lead
abbrev pub LinksOn : Slots → List RecordData → Type 0
LinksOn d [] = Unit {0}
LinksOn d (r ∷ rs) = CarriesOut d r.edit r.swaps × LinksOn (done_slots d r.swaps) rs

-- the history led to this database, and leads on from it
pub record Links (d : Slots) (h : HistoryData) : Type 0 where
  pub sound : IsDatabase (lists_of d)
  pub back : LinksBack d h.past
  pub on : LinksOn d h.future

-- the slots with all done records taken back
abbrev pub origin : Slots → List RecordData → Slots
origin d [] = d
origin d (r ∷ rs) = origin (undone_slots d r.swaps) rs
