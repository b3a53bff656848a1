use Rattle.std.proofs.Common.{◌≡◌, length}
use Rattle.text_words.specs.Words.{after_words, words}
use Rattle.text_words.proofs.word.after_words.Given as goal

abbrev pub invariant-loop-wanted : goal.invariant-loop-wanted
invariant-loop-wanted l =
    after_words (words l.blanks l.left) (words l.blanks l.rest) ≡ after_words (words l.blanks l.front) (words l.blanks l.text)

abbrev pub decreases-loop-wanted : goal.decreases-loop-wanted
decreases-loop-wanted l = length l.left
