use Rattle.std.proofs.Common.{◌≡◌, ◌≤◌, length}
use Rattle.text_words.specs.Words.{words}
use Rattle.text_words.proofs.word.next_word.Given as goal

abbrev pub invariant-loop-front : goal.invariant-loop-front
invariant-loop-front l = record {
  same : words l.blanks l.rest ≡ words l.blanks l.text;
  within : length l.rest ≤ length l.text;
}

abbrev pub decreases-loop-front : goal.decreases-loop-front
decreases-loop-front l = length l.rest
