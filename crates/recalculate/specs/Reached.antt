-- Sessions that a planner can show.
use Rattle.std.specs.Prelude.{◌≡◌, ◌≤◌, ◌+◌, length, Option, IfSome}
use Rattle.lsdb.specs.Slots.{Slots, lists_of}
use Rattle.edit_history.specs.Journal.{HistoryData, Links}
use Rattle.edit_history.specs.Session.{Session, most_edits, session_of}

-- a history shows the session at the database that it led to; so each of its done edits was accepted, and so is each undone one
-- in its turn
pub record IsReached (s : Session) : Type 0 where
  pub slots : Slots
  pub history : HistoryData
  pub links : Links slots history
  pub shows : session_of slots history ≡ s

-- a history that led to a database, with no more edits, done and undone, than may be done; and the copy of the database that it
-- began at, if there is one
pub record IsStudied (d : Slots) (h : HistoryData) (copy : Option Slots) : Type 0 where
  pub links : Links d h
  pub few : length h.past + length h.future ≤ most_edits
  pub loaded : IfSome copy (λ slots. lists_of slots ≡ (session_of d h).base)
