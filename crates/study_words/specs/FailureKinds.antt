-- The kinds of failures.
use Rattle.std.specs.Prelude.{ℕ, List, [], ◌∷◌, Option}
use Rattle.study_words.specs.declared.failure_kind.FailureKind.{FailureKind}
use Rattle.study_words.specs.declared.failure_kind.FailureKind.TheVariants as of
use Rattle.study_words.specs.Named.{named}
use Rattle.study_words.specs.Written.{failure, written}

-- as it is written
abbrev pub failure_kind_text : FailureKind → List ℕ
failure_kind_text w = written (failure w)

abbrev pub failure_kinds : List FailureKind
failure_kinds =
    of.Links ∷ of.Networks ∷ of.Routers ∷ of.All ∷ []

-- the one that a word is, if it is one
abbrev pub failure_kind_of : List ℕ → Option FailureKind
failure_kind_of word = named failure_kind_text failure_kinds word
