-- The first item of a list that passes a test, looked for from the front.
use Rattle.std.proofs.Common.{◌≡◌, ℕ, suc, ◌+◌, ◌<◌, ◌≤◌, Bool, true, false, cond, List, ◌∷◌, length, get_or, drop, Some, None, sym, ap, ◌∙◌, add-one}
use Rattle.std.proofs.Math.ListN.{drop_of_length-le}
use Rattle.std.proofs.Math.Seq.{drop-cons}
use Rattle.std.specs.List.{find}

module _ {X : Type 0} (p : X → Bool) (xs : List X) (i : ℕ) where
  from_here : (x : X) → i < length xs → x ≡ get_or xs i x → drop i xs ≡ x ∷ drop (suc i) xs
  from_here x below is = drop-cons xs i x below ∙ ap (λ y. y ∷ drop (suc i) xs) (sym is)

  pub find_here : (x : X) → i < length xs → x ≡ get_or xs i x → p x ≡ true → find p (drop i xs) ≡ find p xs → Some x ≡ find p xs
  find_here x below is passes before =
      sym (ap (find p) (from_here x below is) ∙ ap (λ b. cond b (Some x) (find p (drop (suc i) xs))) passes) ∙ before

  pub find_later : (x : X) → i < length xs → x ≡ get_or xs i x → p x ≡ false → find p (drop i xs) ≡ find p xs
      → find p (drop (i + 1) xs) ≡ find p xs
  find_later x below is fails before =
      rw add-one
      (sym (ap (find p) (from_here x below is) ∙ ap (λ b. cond b (Some x) (find p (drop (suc i) xs))) fails) ∙ before)

  pub find_none : length xs ≤ i → find p (drop i xs) ≡ find p xs → None ≡ find p xs
  find_none past before = sym (ap (find p) (drop_of_length-le xs past)) ∙ before
