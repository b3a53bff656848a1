-- Words in their roles, from left to right.
use Rattle.std.proofs.Common.{◌≡◌, ℕ, ◌+◌, ◌<◌, ◌≤◌, cond, true, false, codes, List, [], ◌∷◌, ◌++◌, length, get_or, drop, drop-cons, add-one, Result, refl, sym, ap, ◌∙◌}
use Rattle.std.specs.Prelude.{OnOk}
use Rattle.study_hints.proofs.Pieces.{on_ok}
use Rattle.std.proofs.lemmas.List.{drop_all}
use Rattle.text_words.specs.Words.{Word}
use Rattle.study_arguments.specs.Values.{Lookup}
use Rattle.study_hints.specs.declared.role.Role.{Role}
use Rattle.study_hints.specs.ArgumentHints.{argument_hint, first_hint}
use Rattle.study_hints.specs.Roles.{fits}

module _ (names : Lookup) (known : List Word) where
  no_role : (words : List Word) → first_hint names known [] words ≡ codes "see help"
  unfolding first_hint
  no_role words = refl

  no_word : (roles : List Role) → first_hint names known roles [] ≡ codes "see help"
  unfolding first_hint
  no_word [] = refl
  no_word (role ∷ roles) = refl

  one_role : (role : Role) (roles : List Role) (word : Word) (words : List Word)
      → first_hint names known (role ∷ roles) (word ∷ words) ≡ cond (fits names role word) (first_hint names known roles words)
      (argument_hint known role word)
  unfolding first_hint
  one_role role roles word words = refl

  module _ (roles : List Role) (i : ℕ) (hint : List ℕ) where
    -- all words fit
    pub all_fit : (words : List Word) → length roles ≤ i → first_hint names known (drop i roles) words ≡ hint → codes "see help" ≡ hint
    all_fit words done so_far = sym (ap (λ those. first_hint names known those words) (drop_all i roles done) ∙ no_role words) ∙ so_far

    -- no word is left
    pub words_end : (words : List Word) → words ≡ [] → first_hint names known (drop i roles) words ≡ hint → codes "see help" ≡ hint
    words_end words none so_far = sym (ap (first_hint names known (drop i roles)) none ∙ no_word (drop i roles)) ∙ so_far

    module _ (d : Role) (lt : i < length roles) (word : Word) (words rest : List Word) (at : words ≡ word ∷ rest)
        (so_far : first_hint names known (drop i roles) words ≡ hint) where
      next_role : drop i roles ≡ get_or roles i d ∷ drop (i + 1) roles
      next_role = drop-cons roles i d lt ∙ ap (λ n. get_or roles i d ∷ drop n roles) (sym (add-one i))

      by_fit : first_hint names known (drop i roles) words
          ≡ cond (fits names (get_or roles i d) word) (first_hint names known (drop (i + 1) roles) rest) (argument_hint known (get_or roles i d) word)
      by_fit =
          ap (λ those. first_hint names known those words) next_role ∙ ap (first_hint names known (get_or roles i d ∷ drop (i + 1) roles)) at
          ∙ one_role (get_or roles i d) (drop (i + 1) roles) word rest

      pub fits_here : fits names (get_or roles i d) word ≡ true → first_hint names known (drop (i + 1) roles) rest ≡ hint
      fits_here fit = sym (by_fit ∙ ap (λ b. cond b (first_hint names known (drop (i + 1) roles) rest) (argument_hint known (get_or roles i d) word)) fit)
          ∙ so_far

      pub wrong_here : fits names (get_or roles i d) word ≡ false → argument_hint known (get_or roles i d) word ≡ hint
      wrong_here wrong = sym (by_fit ∙ ap (λ b. cond b (first_hint names known (drop (i + 1) roles) rest) (argument_hint known (get_or roles i d) word)) wrong)
          ∙ so_far

-- a piece after a text that is still the first one
pub piece_is : {T E : Type 0} (result : Result T E) (old text piece hint now : List ℕ) → text ≡ old → piece ≡ hint → OnOk result (now ≡ text ++ piece)
    → OnOk result (now ≡ old ++ hint)
piece_is result old text piece hint now same is all =
    on_ok result (λ pushed. pushed ∙ ap (λ l. l ++ piece) same ∙ ap (λ l. old ++ l) is) all
