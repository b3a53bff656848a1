-- Values without numbers.
use Rattle.std.proofs.Common.{ℕ, List, [], ◌∷◌, map, Option, None, Some}
use Rattle.json.specs.Json.{string}
use Rattle.json.specs.Tree.{HasNumbers, ItemsHaveNumbers}
use Rattle.json.specs.Value.{items_of}
use Rattle.study_json.specs.Leaves.{option_json}

pub strings_have : {X : Type 0} (text : X → List ℕ) (xs : List X) → ItemsHaveNumbers (items_of (map (λ x. string (text x)) xs))
strings_have text [] = tt
strings_have text (x ∷ xs) = (tt, strings_have text xs)

pub string_has : {X : Type 0} (text : X → List ℕ) (o : Option X) → HasNumbers (option_json (λ x. string (text x)) o)
string_has text None = tt
string_has text (Some x) = tt
