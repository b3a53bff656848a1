-- What a line gives, case by case.
use Rattle.std.proofs.Common.{◌≡◌, ℕ, true, false, List, [], ◌∷◌, Option, Some, None, Ok, Err, ap, ◌∙◌}
use Rattle.std.specs.Prelude.{ok_or}
use Rattle.std.proofs.lemmas.Bool.{cond-true, cond-false}
use Rattle.text_words.specs.Addresses.{address_of}
use Rattle.text_words.specs.Words.{Word}
use Rattle.network_names.specs.declared.fault.NamesFaultKind.TheVariants.{BadAddress, MissingName}
use Rattle.network_names.specs.Names.{Named, has_colon}
use Rattle.network_names.specs.File.{◌>>=◌, with_entry, with_names, with_words}

module _ (line : ℕ) (all : List Named) (word : Word) where
  pub bad_address : (names : List Word) → address_of word ≡ None → with_entry line all word names ≡ Err (line, BadAddress, word)
  unfolding with_entry
  bad_address [] e = ap (λ (found : Option ℕ). ok_or found (line, BadAddress, word) >>= λ address. Err (line, MissingName, word)) e
  bad_address (name ∷ names) e =
      ap (λ (found : Option ℕ). ok_or found (line, BadAddress, word) >>= λ address. with_names line all address (name ∷ names)) e

  pub missing_name : (names : List Word) (address : ℕ) → address_of word ≡ Some address → names ≡ [] → with_entry line all word names ≡ Err (line, MissingName, word)
  unfolding with_entry
  missing_name names address e none =
      ap (with_entry line all word) none
      ∙ ap (λ (found : Option ℕ). ok_or found (line, BadAddress, word) >>= λ a. Err (line, MissingName, word)) e

  pub entry : (names : List Word) (address : ℕ) → address_of word ≡ Some address → (name : Word) (others : List Word) → names ≡ name ∷ others
      → with_entry line all word names ≡ with_names line all address names
  unfolding with_entry
  entry [] address e name others some = absurd cc
  entry (first ∷ names) address e name others some =
      ap (λ (found : Option ℕ). ok_or found (line, BadAddress, word) >>= λ a. with_names line all a (first ∷ names)) e

module _ (line : ℕ) (all : List Named) (ws : List Word) where
  pub no_words : ws ≡ [] → with_words line all ws ≡ Ok all
  unfolding with_words
  no_words e = ap (with_words line all) e

  pub ipv6 : (first : Word) (names : List Word) → ws ≡ first ∷ names → has_colon first ≡ true → with_words line all ws ≡ Ok all
  unfolding with_words
  ipv6 first names e h = ap (with_words line all) e ∙ cond-true _ _ _ h

  pub of_entry : (first : Word) (names : List Word) → ws ≡ first ∷ names → has_colon first ≡ false → with_words line all ws ≡ with_entry line all first names
  unfolding with_words
  of_entry first names e h = ap (with_words line all) e ∙ cond-false _ _ _ h
