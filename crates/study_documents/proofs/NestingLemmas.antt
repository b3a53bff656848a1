-- How deep what may be missing nests, and lists.
use Rattle.std.proofs.Common.{ℕ, ◌+◌, ◌≤◌, List, [], ◌∷◌, Option, None, Some, arith}
use Rattle.json.specs.Json.{Json}
use Rattle.json.specs.Tree.{depth}
use Rattle.study_json.specs.Leaves.{array_json, option_json}

pub option_shallow : {X : Type 0} (json : X → Json) (d : ℕ) → ((x : X) → depth (json x) ≤ d) → (o : Option X) → depth (option_json json o) ≤ d
option_shallow json d h None = omega arith
option_shallow json d h (Some x) = h x

pub array_shallow : {X : Type 0} (json : X → Json) (d : ℕ) → ((x : X) → depth (json x) ≤ d) → (xs : List X) → depth (array_json json xs) ≤ d + 1
array_shallow json d h [] = omega arith
array_shallow json d h (x ∷ xs) = omega (arith, h x, array_shallow json d h xs)
