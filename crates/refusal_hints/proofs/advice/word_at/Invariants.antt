use Rattle.std.proofs.Common.{◌≡◌}
use Rattle.edit_script.specs.Words.{words}
use Rattle.refusal_hints.specs.Advice.{word_at}
use Rattle.refusal_hints.proofs.advice.word_at.Given as goal

-- the word is that many words further on
abbrev pub invariant-loop-left : goal.invariant-loop-left
invariant-loop-left l = word_at (words l.rest) l.left ≡ word_at (words l.text) l.place

abbrev pub decreases-loop-left : goal.decreases-loop-left
decreases-loop-left l = l.left
