-- The dump of a session, version 2.
use Rattle.std.specs.Prelude.{ℕ, ◌<◌, ◌^◌, List, ◌++◌, length, All}
use Rattle.std.specs.Int.{w16, to_be_bytes}
use Rattle.lsdb.specs.Lists.{Lists}
use Rattle.lsdb.specs.BaseText.{base_text}
use Rattle.edit_script.specs.declared.edit.Edit.{Edit}
use Rattle.edit_script.specs.Spelling.{IsScripted}
use Rattle.saved_sessions.specs.Lines.{lines_of}

-- the number of edits done and the number of edits undone, and their lines
abbrev pub history_text : List Edit → List Edit → List ℕ
history_text done undone = to_be_bytes w16 (length done) ++ to_be_bytes w16 (length undone) ++ lines_of (done ++ undone)

unfoldable pub session_text : Lists → List Edit → List Edit → List ℕ
session_text base done undone = base_text base ++ history_text done undone

-- edits that fit into such a dump: their numbers have 16 bits, and a line of a script means each
pub record IsHistory (done undone : List Edit) : Type 0 where
  pub few_done : length done < 2 ^ 16
  pub few_undone : length undone < 2 ^ 16
  pub done_fit : All IsScripted done
  pub undone_fit : All IsScripted undone
