-- Loops that add to a list, element by element.
use Rattle.std.proofs.Common.{◌≡◌, ℕ, ◌+◌, ◌<◌, ◌≤◌, List, ◌++◌, length, get_or, take, refl, ap, ◌∙◌}
use Rattle.area_routes.proofs.AddsLemmas.{Adds, adds_all, adds_more, adds_start}

module _ {X C : Type 0} {g : List X → List C} {h : X → List C} (adds : Adds g h) (start : List C) (xs : List X) where
  pub none_added : start ≡ start ++ g (take 0 xs)
  none_added = adds_start adds (λ cs. start ≡ cs) xs start refl

  pub one_added : (i : ℕ) (x : X) (before next : List C) → i < length xs → x ≡ get_or xs i x → before ≡ start ++ g (take i xs)
      → next ≡ before ++ h x → next ≡ start ++ g (take (i + 1) xs)
  one_added i x before next lt item was is =
      adds_more adds (λ cs. before ≡ cs ++ g (take i xs)) (λ cs. before ≡ cs) (λ cs. next ≡ cs) xs i x lt item (λ cs p. p)
      (λ cs q. is ∙ ap (λ l. l ++ h x) q) start was

  pub all_added : (i : ℕ) (now : List C) → length xs ≤ i → now ≡ start ++ g (take i xs) → now ≡ start ++ g xs
  all_added i now past was = adds_all adds (λ cs. now ≡ cs ++ g (take i xs)) (λ cs. now ≡ cs) xs i past (λ cs p. p) start was
