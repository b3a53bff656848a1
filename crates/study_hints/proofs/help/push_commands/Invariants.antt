use Rattle.std.proofs.Common.{◌≡◌}
use Rattle.study_hints.specs.Help.{command_line, with_end}
use Rattle.study_hints.proofs.Pieces.{pieces}
use Rattle.study_hints.proofs.help.push_commands.Given as goal

abbrev pub invariant-loop-word : goal.invariant-loop-word
invariant-loop-word g l = l.text.items ≡ pieces with_end command_line l.initial.text.items l.word-items l.word-index
