-- What opening the bytes of a saved session answers: the session, or the first fault from front to back.
use Rattle.std.specs.Prelude.{◌≡◌, ℕ, zero, suc, ◌+◌, ◌==◌, nat_lt, Bool, true, false, List, [], drop, Option, Some, None, Result, Ok, Err, IfOk, IfErr, if◌then◌else◌}
use Rattle.std.specs.List.{list_any}
use Rattle.std.specs.Int.{w16}
use Rattle.lsdb.specs.declared.fault.DumpFault.{DumpFault}
use Rattle.lsdb.specs.declared.fault.DumpFaultKind.{DumpFaultKind}
use Rattle.lsdb.specs.declared.fault.DumpFaultKind.TheVariants.{Truncated, BadHistory}
use Rattle.lsdb.specs.Lists.{Lists}
use Rattle.lsdb.specs.Loading.{◌>>=◌, At, IsFirstFault, fault, advanced, number_at, ended, loaded, front_loaded}
use Rattle.lsdb.specs.BaseLoading.{begins_session, base_loaded, base_front_loaded}
use Rattle.lsdb.specs.Text.{text}
use Rattle.edit_script.specs.declared.edit.Edit.{Edit}
use Rattle.edit_history.specs.declared.fault.EditFault.{EditFault}
use Rattle.edit_history.specs.Session.{Session, start, edited, moved_back, most_edits}
use Rattle.recalculate.specs.Planning.{PlannerValue}
use Rattle.saved_sessions.specs.Lines.{line_feed, edit_line}
use Rattle.saved_sessions.specs.Saved.{saved_text}

-- ---- positions

-- the position after this number of bytes
abbrev pub position_after : ℕ → List ℕ → At
position_after byte_count bytes = record { offset = byte_count; rest = drop byte_count bytes }

-- ---- one line

abbrev pub has_line_feed : List ℕ → Bool
has_line_feed bytes = list_any (λ b. b == line_feed) bytes

-- what is wrong with a line that is no line of an edit: no line feed ends it, or it is not just as an edit is printed
abbrev pub line_fault : ℕ → List ℕ → DumpFaultKind
line_fault line bytes = if has_line_feed bytes then BadHistory line else Truncated

abbrev pub edit_found : ℕ → At → Option (Edit × ℕ) → Result (Edit × At) DumpFault
edit_found line at None = fault at (line_fault line at.rest)
edit_found line at (Some found) = Ok (found.0, advanced found.1 at)

-- the edit of the line at a position, and the position after the line
abbrev pub edit_at : ℕ → At → Result (Edit × At) DumpFault
edit_at line at = edit_found line at (edit_line at.rest)

-- the session with the edit done; where the edit is refused, its line is at fault
abbrev pub edit_done : ℕ → At → Result Session EditFault → Result Session DumpFault
edit_done line at (Ok s) = Ok s
edit_done line at (Err refusal) = fault at (BadHistory line)

-- the session with the edit of one line carried out, and the position after the line
unfoldable pub line_at : ℕ → Session → At → Result (Session × At) DumpFault
line_at line s at = do
  found ← edit_at line at
  next ← edit_done line at (edited s found.0)
  Ok (next, found.1)

-- ---- all lines

-- n more lines, counted from that one on, each edit carried out in turn
unfoldable pub lines_from : ℕ → ℕ → Session → At → Result (Session × At) DumpFault
lines_from zero line s at = Ok (s, at)
lines_from (suc n) line s at = do
  next ← line_at line s at
  lines_from n (line + 1) next.0 next.1

-- how many edits are done, how many are undone, and the position after these numbers
unfoldable pub counts_at : At → Result (ℕ × ℕ × At) DumpFault
counts_at at = do
  done ← number_at w16 at
  undone ← number_at w16 done.1
  if nat_lt most_edits (done.0 + undone.0) then fault at (BadHistory most_edits) else Ok (done.0, undone.0, undone.1)

-- all edits are carried out, first the done ones; then the undone ones are taken back
unfoldable pub history_at : Lists → At → Result (Session × At) DumpFault
history_at base at = do
  counts ← counts_at at
  found ← lines_from (counts.0 + counts.1) 0 (start base) counts.2
  Ok (moved_back counts.1 found.0, found.1)

-- ---- the session

-- version 2: the base, and after it the edits
unfoldable pub session_loaded : List ℕ → Result Session DumpFault
session_loaded bytes = do
  base ← base_loaded bytes
  found ← history_at base.0 (position_after base.1 bytes)
  ended found

-- version 1: a database, without edits
unfoldable pub dump_loaded : List ℕ → Result Session DumpFault
dump_loaded bytes = do
  db ← loaded bytes
  Ok (start db)

-- the session in bytes of either version
unfoldable pub opened : List ℕ → Result Session DumpFault
opened bytes = if begins_session bytes then session_loaded bytes else dump_loaded bytes

-- ---- the front: what is read of the bytes before memory is asked for

-- the first LSA of the front, or none, or the first fault of the front
unfoldable pub front_opened : List ℕ → Result (List ℕ) DumpFault
front_opened bytes = if begins_session bytes then base_front_loaded bytes else front_loaded bytes

-- ---- calls that open a session

-- the session that bytes show is answered, of which no tree was calculated; or the first fault, or want of memory. A fault of the
-- front is reported whatever memory there is: none is asked for before
pub record Loads (shown : Result Session DumpFault) (at_front : Result (List ℕ) DumpFault) (result : Result PlannerValue DumpFault) : Type 0 where
  pub found : IfOk result (λ planner. shown ≡ Ok planner.session)
  pub fault : IfErr result (λ fault. IsFirstFault fault shown)
  pub front : (fault : DumpFault) → at_front ≡ Err fault → result ≡ Err fault
  pub runs : IfOk result (λ planner. planner.runs ≡ 0)
  pub kept : IfOk result (λ planner. planner.kept ≡ [])

-- the bytes are the text of what is opened, and each such text is opened, unless memory runs out
pub record Opens (bytes : List ℕ) (result : Result PlannerValue DumpFault) : Type 0 where
  pub session : begins_session bytes ≡ true → IfOk result (λ planner. bytes ≡ saved_text planner.session)
  pub dump : begins_session bytes ≡ false
      → IfOk result (λ planner. (bytes ≡ text planner.session.base) × (planner.session ≡ start planner.session.base))
  pub loads : Loads (opened bytes) (front_opened bytes) result
