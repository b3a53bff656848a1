use Rattle.std.proofs.Common.{◌≡◌, ◌++◌, take}
use Rattle.std.specs.Prelude.{All}
use Rattle.edit_script.specs.Spelling.{IsScriptedUnlessEvent}
use Rattle.edit_history.specs.Session.{edits_of}
use Rattle.saved_sessions.specs.Lines.{lines_of}
use Rattle.saved_sessions.proofs.saving.put_lines.Given as goal

abbrev pub invariant-loop-record : goal.invariant-loop-record
invariant-loop-record g l = record {
  written : l.out.items ≡ l.initial.out.items ++ lines_of (edits_of (take l.record-index l.records));
  range : All IsScriptedUnlessEvent (edits_of (take l.record-index l.records));
}
