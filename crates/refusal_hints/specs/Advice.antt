-- Which word of a line is at fault, and what would have been right.
use Rattle.std.specs.Prelude.{ℕ, List, [], ◌++◌, codes, unwrap_or}
use Rattle.std.specs.List.{slice_get}
use Rattle.text_words.specs.Words.{Word}
use Rattle.study_hints.specs.Escaped.{escaped}

-- the place of the word, counted from the command word, which has place 0; and what would have been right
pub record AdviceValue : Type 0 where
  pub place : ℕ
  pub text : List ℕ

abbrev pub advice : ℕ → List ℕ → AdviceValue
advice place text = record { place = place; text = text }

-- of what is refused for no reason of these
abbrev pub no_advice : AdviceValue
no_advice = advice 0 (codes "see help")

-- the word, and what would have been right
pub record HintValue : Type 0 where
  pub word : Word
  pub text : List ℕ

-- the word at a place; an empty one where there are fewer
abbrev pub word_at : List Word → ℕ → Word
word_at words place = unwrap_or (slice_get words place) []

-- in a line with these words from the command word on
abbrev pub hint_in : List Word → AdviceValue → HintValue
hint_in words advice = record { word = word_at words advice.place; text = advice.text }

-- ` WORD (HINT)`
abbrev pub hint_text : HintValue → List ℕ
hint_text hint = codes " " ++ escaped hint.word ++ codes " (" ++ hint.text ++ codes ")"
