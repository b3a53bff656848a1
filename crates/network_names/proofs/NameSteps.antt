-- What one more name of a line gives, case by case.
use Rattle.std.proofs.Common.{◌≡◌, ℕ, true, false, cond, eqb, List, [], ◌∷◌, ◌++◌, Some, None, Result, Ok, Err, ap, ◌∙◌}
use Rattle.std.specs.Prelude.{not}
use Rattle.std.proofs.lemmas.Bool.{cond-true, cond-false}
use Rattle.text_words.specs.Words.{Word}
use Rattle.network_names.specs.declared.fault.NamesFaultKind.TheVariants.{BadName, ReservedName, NameTaken}
use Rattle.network_names.specs.Fault.{FaultAt}
use Rattle.network_names.specs.Names.{Named, address_in, is_name, reads_otherwise}
use Rattle.network_names.specs.File.{beside, with_name}

module _ (line : ℕ) (all : List Named) (address : ℕ) (word : Word) where
  abbrev reserved_or_beside : Result (List Named) FaultAt
  reserved_or_beside = cond (reads_otherwise word) (Err (line, ReservedName, word)) (beside line all address word (address_in all word))

  pub bad_name : is_name word ≡ false → with_name line all address word ≡ Err (line, BadName, word)
  unfolding with_name
  bad_name h = ap (λ b. cond (not b) (Err (line, BadName, word)) reserved_or_beside) h

  good_name : is_name word ≡ true → with_name line all address word ≡ reserved_or_beside
  unfolding with_name
  good_name h = ap (λ b. cond (not b) (Err (line, BadName, word)) reserved_or_beside) h

  pub reserved : is_name word ≡ true → reads_otherwise word ≡ true → with_name line all address word ≡ Err (line, ReservedName, word)
  reserved h r = good_name h ∙ cond-true _ _ _ r

  module _ (h : is_name word ≡ true) (r : reads_otherwise word ≡ false) where
    free : with_name line all address word ≡ beside line all address word (address_in all word)
    free = good_name h ∙ cond-false _ _ _ r

    pub fresh : address_in all word ≡ None → with_name line all address word ≡ Ok (all ++ (word, address) ∷ [])
    fresh e = free ∙ ap (beside line all address word) e

    pub again : (other : ℕ) → address_in all word ≡ Some other → eqb other address ≡ true → with_name line all address word ≡ Ok all
    again other e same = free ∙ ap (beside line all address word) e ∙ cond-true _ _ _ same

    pub taken : (other : ℕ) → address_in all word ≡ Some other → eqb other address ≡ false
        → with_name line all address word ≡ Err (line, NameTaken, word)
    taken other e differs = free ∙ ap (beside line all address word) e ∙ cond-false _ _ _ differs
