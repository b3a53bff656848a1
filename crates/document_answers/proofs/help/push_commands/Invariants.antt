use Rattle.std.proofs.Common.{◌≡◌, ◌++◌, map, take}
use Rattle.document_answers.specs.OwnDocuments.{command_help}
use Rattle.document_answers.proofs.help.push_commands.Given as goal

-- the lines of the commands so far
abbrev pub invariant-loop-word : goal.invariant-loop-word
invariant-loop-word g l = l.lines.items ≡ l.initial.lines.items ++ map command_help (take l.word-index l.word-items)
