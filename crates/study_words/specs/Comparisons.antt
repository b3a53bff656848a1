-- How numbers are compared.
use Rattle.std.specs.Prelude.{ℕ, List, [], ◌∷◌, Option}
use Rattle.study_words.specs.declared.comparison.Comparison.{Comparison}
use Rattle.study_words.specs.declared.comparison.Comparison.TheVariants as of
use Rattle.study_words.specs.Named.{named}
use Rattle.study_words.specs.Written.{compare, written}

-- as it is written
abbrev pub comparison_text : Comparison → List ℕ
comparison_text w = written (compare w)

abbrev pub comparisons : List Comparison
comparisons =
    of.AtMost ∷ of.Equal ∷ of.AtLeast ∷ []

-- the one that a word is, if it is one
abbrev pub comparison_of : List ℕ → Option Comparison
comparison_of word = named comparison_text comparisons word
