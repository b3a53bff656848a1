-- Loops that look for an item that passes a test.
use Rattle.std.proofs.Common.{◌≡◌, ℕ, ◌<◌, ◌≤◌, ◌+◌, Bool, true, false, List, length, get_or, take, sym, ap, ◌∙◌}
use Rattle.std.specs.Prelude.{◌||◌}
use Rattle.std.specs.List.{list_any}
use Rattle.std.proofs.lemmas.List.{take_all}
use Rattle.std.proofs.lemmas.List.Folds.{list_any_at, list_any_more}

module _ {X : Type 0} (p : X → Bool) (xs : List X) where
  -- this one passes
  pub some_passes : (i : ℕ) (d : X) → i < length xs → p (get_or xs i d) ≡ true → true ≡ list_any p xs
  some_passes i d lt held = sym (list_any_at p xs i d lt held)

  -- none so far, and not this one
  pub none_more : (i : ℕ) (d : X) → i < length xs → list_any p (take i xs) ≡ false → p (get_or xs i d) ≡ false → list_any p (take (i + 1) xs) ≡ false
  none_more i d lt before fails = list_any_more p xs i d lt ∙ λ j. before j || fails j

  -- none at all
  pub none_passes : (i : ℕ) → length xs ≤ i → list_any p (take i xs) ≡ false → false ≡ list_any p xs
  none_passes i past before = sym before ∙ ap (list_any p) (take_all i xs past)
