-- Slices that `==` finds equal, where `==` at the elements finds equal only what is the same.
use Rattle.std.proofs.Common.{◌≡◌, Bool, true, false, List, [], ◌∷◌, refl, ap, ◌∙◌, true≢false, sym}
use Rattle.std.specs.Prelude.{◌&&◌}
use Rattle.std.specs.Cmp.Lexicographic.{pointwise}

both : (a b : Bool) → (a && b) ≡ true → (a ≡ true) × (b ≡ true)
both true b e = (refl, e)
both false b e = absurd (true≢false (sym e))

pub same_items : {X : Type 0} (eq : X → X → Bool) → ((x y : X) → eq x y ≡ true → x ≡ y)
    → (xs ys : List X) → pointwise eq xs ys ≡ true → xs ≡ ys
same_items eq exact [] [] e = refl
same_items eq exact [] (y ∷ ys) e = absurd (true≢false (sym e))
same_items eq exact (x ∷ xs) [] e = absurd (true≢false (sym e))
same_items eq exact (x ∷ xs) (y ∷ ys) e =
    let (one, more) = both (eq x y) (pointwise eq xs ys) e in
    ap (λ z. z ∷ xs) (exact x y one) ∙ ap (λ zs. y ∷ zs) (same_items eq exact xs ys more)
