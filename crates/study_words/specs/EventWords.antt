-- The command words of events.
use Rattle.std.specs.Prelude.{ℕ, List, [], ◌∷◌, Option}
use Rattle.study_words.specs.declared.event_word.EventWord.{EventWord}
use Rattle.study_words.specs.declared.event_word.EventWord.TheVariants as of
use Rattle.study_words.specs.Named.{named}
use Rattle.study_words.specs.Written.{event, written}

-- as it is written
abbrev pub event_text : EventWord → List ℕ
event_text w = written (event w)

abbrev pub event_words : List EventWord
event_words = of.Cut ∷ of.SetCost ∷ of.Drain ∷ of.Fail ∷ of.Back ∷ []

-- the one that a word is, if it is one
abbrev pub event_word_of : List ℕ → Option EventWord
event_word_of word = named event_text event_words word
