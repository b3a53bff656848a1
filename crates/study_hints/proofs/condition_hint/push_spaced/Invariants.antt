use Rattle.std.proofs.Common.{◌≡◌}
use Rattle.study_hints.specs.ConditionHints.{after_space}
use Rattle.study_hints.proofs.Pieces.{pieces}
use Rattle.study_hints.proofs.condition_hint.push_spaced.Given as goal

abbrev pub invariant-loop-word : goal.invariant-loop-word
invariant-loop-word g l = l.text.items ≡ pieces after_space g.T.Candidate.written l.initial.text.items l.words l.word-index
