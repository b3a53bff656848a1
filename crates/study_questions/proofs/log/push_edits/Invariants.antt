use Rattle.std.proofs.Common.{◌≡◌, ◌++◌, take}
use Rattle.edit_history.specs.Session.{edits_of}
use Rattle.saved_sessions.specs.Lines.{lines_of}
use Rattle.study_questions.proofs.log.push_edits.Given as goal

-- the edits so far
abbrev pub invariant-loop-record : goal.invariant-loop-record
invariant-loop-record g l = l.text.items ≡ l.initial.text.items ++ lines_of (edits_of (take l.record-index l.records))
