use Rattle.std.proofs.Common.{◌≡◌, map, take}
use Rattle.std.specs.String.{string_bytes}
use Rattle.edit_history.specs.Session.{edits_of}
use Rattle.edit_script.specs.Spelling.{spelling}
use Rattle.document_answers.proofs.log.spellings.Given as goal

-- the edits so far
abbrev pub invariant-loop-record : goal.invariant-loop-record
invariant-loop-record g l = map string_bytes l.lines.items ≡ map spelling (edits_of (take l.record-index l.records))
