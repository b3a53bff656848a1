use Rattle.std.proofs.Common.{◌≡◌, drop}
use Rattle.study_words.specs.Named.{named}
use Rattle.study_words.proofs.word.Word.of.Given as goal

abbrev pub invariant-loop-value : goal.invariant-loop-value
invariant-loop-value g l = named g.Self.Word.spelled (drop l.value-index l.value-items) l.word ≡ named g.Self.Word.spelled l.value-items l.word
