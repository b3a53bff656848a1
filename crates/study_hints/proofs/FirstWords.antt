-- The words from the first word of a text on.
use Rattle.std.proofs.Common.{◌≡◌, ◌<◌, ℕ, List, [], ◌∷◌, length, Option, Some, None, sym, ◌∙◌}
use Rattle.std.specs.Prelude.{MatchOption}
use Rattle.text_words.specs.Words.{Word}
use Rattle.edit_script.specs.Words.{words}
use Rattle.study_arguments.specs.declared.position.Position.{Position}
use Rattle.study_hints.specs.ConditionHints.{words_from}

pub words_from_first : (at : Option Position) (text : List ℕ) (those : List Word)
    → MatchOption at (words text ≡ []) (λ x. (words text ≡ x.word.now ∷ words x.rest.now) × (length x.rest.now < length text))
    → words text ≡ those → words_from at ≡ those
words_from_first None text those none same = sym none ∙ same
words_from_first (Some at) text those some same = sym some.0 ∙ same
