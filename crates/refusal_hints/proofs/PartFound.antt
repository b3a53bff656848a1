-- The first part of words that passes a test, word by word.
use Rattle.std.proofs.Common.{◌≡◌, Bool, List, ◌∷◌, Option, None, Some, sym, ap, ◌∙◌}
use Rattle.std.specs.List.{find, flat_map}
use Rattle.std.specs.Option.{option_or}
use Rattle.std.proofs.lemmas.List.Folds.{find-append}
use Rattle.text_words.specs.Words.{Word}
use Rattle.refusal_hints.specs.RouterWord.{parts}

module _ (p : Word → Bool) (it : Option Word) (words : List Word) (word : Word) (others : List Word)
    (is : words ≡ word ∷ others) (found : find p (flat_map parts words) ≡ it) where
  by_word : option_or (find p (parts word)) (find p (flat_map parts others)) ≡ it
  by_word = sym (ap (λ those. find p (flat_map parts those)) is ∙ find-append p (parts word) (flat_map parts others)) ∙ found

  -- a part of the first word passes
  pub part_found : (part : Word) → Some part ≡ find p (parts word) → Some part ≡ it
  part_found part at = sym (ap (λ o. option_or o (find p (flat_map parts others))) (sym at)) ∙ by_word

  -- none does
  pub none_found : None ≡ find p (parts word) → find p (flat_map parts others) ≡ it
  none_found none = sym (ap (λ o. option_or o (find p (flat_map parts others))) (sym none)) ∙ by_word
