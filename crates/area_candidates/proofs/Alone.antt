-- One area alone.
use Rattle.std.proofs.Common.{◌≡◌, suc, true, false, Bool, eqb, List, [], ◌∷◌, length, refl, arith}
use Rattle.std.proofs.lemmas.Bool.{eqb-true}
use Rattle.area_candidates.specs.Between.{is_one}

pub is_one_by_length : {X : Type 0} (xs : List X) → is_one xs ≡ eqb (length xs) 1
is_one_by_length [] = refl
is_one_by_length (x ∷ []) = refl
is_one_by_length (x ∷ y ∷ rest) = by (eqb (suc (suc (length rest))) 1) refl
  where
    by : (b : Bool) → eqb (suc (suc (length rest))) 1 ≡ b → false ≡ b
    by true is = let one : suc (suc (length rest)) ≡ 1 = eqb-true (suc (suc (length rest))) 1 is in absurd (omega arith)
    by false is = refl
