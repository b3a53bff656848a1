-- Sessions of edits, by the lines that mean them.
use Rattle.std.specs.Prelude.{◌≡◌, ℕ, List, [], ◌∷◌, ◌++◌, Ok}
use Rattle.std.specs.Borrow.{Bor}
use Rattle.lsdb.specs.Lists.{Lists, lsas_of}
use Rattle.lsdb.specs.declared.section.Section.{Section}
use Rattle.lsdb.specs.Loading.{loaded}
use Rattle.edit_script.specs.declared.edit.Edit.{Edit}
use Rattle.edit_history.specs.Exchange.{RecordData}
use Rattle.edit_history.specs.Journal.{HistoryData}
use Rattle.edit_history.specs.Session.{Session, effects, state, moved_back, moved_on}
use Rattle.test_databases.specs.declared.edited.Way.{Way}
use Rattle.test_databases.specs.declared.edited.Way.TheVariants.{Back, On}
use Rattle.test_databases.specs.Lines.{Mean}

-- the session with one more edit done, and none undone
abbrev pub with_edit : Session → Edit → Session
with_edit s edit = record { base = s.base; done = s.done ++ edit ∷ []; undone = [] }

-- the records of the edits that can move
abbrev pub movable : Way → HistoryData → List RecordData
movable Back h = h.past
movable On h = h.future

-- the session after this number of edits moved
abbrev pub moved : Way → ℕ → Session → Session
moved Back count s = moved_back count s
moved On count s = moved_on count s

-- the session began at the database of the dump; the edits that the lines mean are done in it, and none was refused
pub record IsSessionOf (dump : List ℕ) (lines : List (Bor (List ℕ))) (s : Session) : Type 0 where
  pub loads : loaded dump ≡ Ok s.base
  pub reads : Mean lines s.done
  pub accepted : effects s.base s.done ≡ Ok (state s)
  pub undone : s.undone ≡ []

-- two databases have the same LSAs in a section, in the same order
abbrev pub HasSame : Lists → Lists → Section → Type 0
HasSame db other section = lsas_of section db ≡ lsas_of section other
