-- The command words of questions that only studies have.
use Rattle.std.specs.Prelude.{ℕ, List, [], ◌∷◌, Option}
use Rattle.study_words.specs.declared.see_word.SeeWord.{SeeWord}
use Rattle.study_words.specs.declared.see_word.SeeWord.TheVariants as of
use Rattle.study_words.specs.Named.{named}
use Rattle.study_words.specs.Written.{see, written}

-- as it is written
abbrev pub see_text : SeeWord → List ℕ
see_text w = written (see w)

abbrev pub see_words : List SeeWord
see_words =
    of.Routers ∷ of.Links ∷ of.Networks ∷ of.Routes ∷ of.Path ∷ of.Explain ∷ of.Changes ∷ of.Differences
    ∷ of.Lost ∷ of.Gone ∷ of.Loops ∷ of.Microloops ∷ of.Sweep ∷ of.Audit ∷ of.Log ∷ of.Help ∷ []

-- the one that a word is, if it is one
abbrev pub see_word_of : List ℕ → Option SeeWord
see_word_of word = named see_text see_words word
