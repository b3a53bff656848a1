-- Sessions that are saved, and their bytes.
use Rattle.std.specs.Prelude.{◌≡◌, ℕ, ◌+◌, ◌≤◌, false, List, ◌++◌, length, All}
use Rattle.lsdb.specs.Lists.{IsDatabase}
use Rattle.edit_script.specs.Spelling.{is_event, IsScripted}
use Rattle.edit_history.specs.Session.{Session, NoneRefused, most_edits}
use Rattle.saved_sessions.specs.Text.{session_text}

-- none of the edits is an event, which no line of a script means
abbrev pub HasNoEvents : Session → Type 0
HasNoEvents s = All (λ edit. is_event edit ≡ false) (s.done ++ s.undone)

-- a session that a planner can come to: no edit is refused on the way from its base, its edits are no more than may be done,
-- and each is one that a line of a script means
pub record CanBeSaved (s : Session) : Type 0 where
  pub base : IsDatabase s.base
  pub accepted : NoneRefused s
  pub few : length s.done + length s.undone ≤ most_edits
  pub done_fit : All IsScripted s.done
  pub undone_fit : All IsScripted s.undone

-- the dump of the session, version 2
abbrev pub saved_text : Session → List ℕ
saved_text s = session_text s.base s.done s.undone
