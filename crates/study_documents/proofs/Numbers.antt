-- Numbers in what was added.
use Rattle.std.proofs.Common.{ℕ, List, [], ◌∷◌, map, Result, Ok, Err}
use Rattle.std.specs.Prelude.{OnOk}
use Rattle.json.specs.Json.{string}
use Rattle.json.specs.Tree.{ItemsHaveNumbers}
use Rattle.json.specs.Value.{items_of}

pub on_ok : {T E P Q : Type 0} (result : Result T E) → (P → Q) → OnOk result P → OnOk result Q
on_ok (Ok t) f p = f p
on_ok (Err e) f p = p

-- what holds whatever becomes of the call
pub always : {T E P : Type 0} (result : Result T E) → P → OnOk result P
always (Ok t) p = p
always (Err e) p = tt

-- strings have none
pub strings_have : {X : Type 0} (text : X → List ℕ) (xs : List X) → ItemsHaveNumbers (items_of (map (λ x. string (text x)) xs))
strings_have text [] = tt
strings_have text (x ∷ xs) = (tt, strings_have text xs)
