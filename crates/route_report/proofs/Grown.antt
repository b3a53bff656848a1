-- Lists that grow by what each item gives.
use Rattle.std.proofs.Common.{◌≡◌, ℕ, ◌+◌, ◌<◌, List, [], ◌∷◌, ◌++◌, length, get_or, take, Some, sym, ap, ◌∙◌}
use Rattle.std.specs.List.{slice_get}
use Rattle.std.proofs.lemmas.List.{take_more}
use Rattle.std.proofs.lemmas.Option.{get_or_from_slice_get, slice_get_within}
use Rattle.area_routes.proofs.AddsLemmas.{Adds}

module _ {X C : Type 0} {g : List X → List C} {h : X → List C} (adds : Adds g h) where
  -- one more
  pub one_more : (xs : List X) (i : ℕ) (x : X) (old new : List C) → i < length xs → x ≡ get_or xs i x
      → old ≡ g (take i xs) → new ≡ old ++ h x → new ≡ g (take (i + 1) xs)
  one_more xs i x old new lt is so_far more =
      more ∙ ap (λ (l : List C). l ++ h x) so_far
      ∙ sym (adds.push (take i xs) x) ∙ ap g (ap (λ y. take i xs ++ y ∷ []) is ∙ sym (take_more xs i x lt))

  -- the same where the item is looked up
  pub one_more_at : (xs : List X) (i : ℕ) (x : X) (old new : List C) → slice_get xs i ≡ Some x
      → old ≡ g (take i xs) → new ≡ old ++ h x → new ≡ g (take (i + 1) xs)
  one_more_at xs i x old new here so_far more =
      one_more xs i x old new (slice_get_within xs i x here) (sym (get_or_from_slice_get xs i x x here)) so_far more
