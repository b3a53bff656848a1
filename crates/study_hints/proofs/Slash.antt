-- A word with more than one slash has not two parts.
use Rattle.std.proofs.Common.{◌≡◌, ℕ, ◌<◌, Bool, List, [], ◌∷◌, length, None, refl, arith}
use Rattle.std.specs.List.{slice_split}
use Rattle.std.proofs.lemmas.List.Splits.{length-slice_split}
use Rattle.edit_script.specs.Arguments.{two_parts}

no_two_parts : (a b : List ℕ) (parts : List (List ℕ)) → 0 < length parts → two_parts (a ∷ b ∷ parts) ≡ None
no_two_parts a b [] h = absurd (omega arith)
no_two_parts a b (part ∷ parts) h = refl

pub three_parts : (p : ℕ → Bool) (a b rest : List ℕ) → two_parts (a ∷ b ∷ slice_split p rest) ≡ None
three_parts p a b rest = no_two_parts a b (slice_split p rest) (omega (arith, length-slice_split p rest))
