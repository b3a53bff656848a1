-- The front of a list with one element more.
use Rattle.std.proofs.Common.{◌≡◌, ℕ, ◌+◌, ◌<◌, length, get_or, List, [], ◌∷◌, ◌++◌, take, Some, sym, ap, ◌∙◌}
use Rattle.std.specs.List.{flat_map, slice_get}
use Rattle.std.proofs.lemmas.List.{flat_map_more, take_more}
use Rattle.std.proofs.lemmas.Option.{get_or_from_slice_get, slice_get-get_or, slice_get_within}

pub taken : {X : Type 0} (xs : List X) (i : ℕ) (x : X) → slice_get xs i ≡ Some x → take (i + 1) xs ≡ take i xs ++ x ∷ []
taken xs i x here =
    take_more xs i x (slice_get_within xs i x here)
    ∙ ap (λ a. take i xs ++ a ∷ []) (get_or_from_slice_get xs i x x here)

pub flat_taken : {X Y : Type 0} (f : X → List Y) (xs : List X) (i : ℕ) (x : X) → slice_get xs i ≡ Some x
    → flat_map f (take (i + 1) xs) ≡ flat_map f (take i xs) ++ f x
flat_taken f xs i x here = ap (flat_map f) (taken xs i x here) ∙ sym (flat_map_more f [] (take i xs) x)

-- a list that grows by what each item gives
pub ways_more : {X Y : Type 0} (f : X → List Y) (xs : List X) (i : ℕ) (d : X) → i < length xs → (old new : List Y)
    → old ≡ flat_map f (take i xs) → new ≡ old ++ f (get_or xs i d) → new ≡ flat_map f (take (i + 1) xs)
ways_more {X} {Y} f xs i d lt old new before pushed =
    pushed ∙ ap (λ (l : List Y). l ++ f (get_or xs i d)) before
    ∙ sym (flat_taken f xs i (get_or xs i d) (slice_get-get_or xs i d lt))
