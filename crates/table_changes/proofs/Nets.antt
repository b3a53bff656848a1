-- The changes of one more prefix.
use Rattle.std.proofs.Common.{◌≡◌, ℕ, ◌+◌, ◌<◌, List, [], ◌∷◌, ◌++◌, length, take, get_or, Option, sym, ap, ◌∙◌}
use Rattle.std.specs.List.{cons_option, filter_map}
use Rattle.std.proofs.lemmas.List.{take_more}
use Rattle.std.proofs.lemmas.List.Elements.{filter_map-append}

pub pushed : {X Y : Type 0} (f : X → Option Y) (xs : List X) (i : ℕ) (x : X) → i < length xs → x ≡ get_or xs i x
    → filter_map f (take i xs) ++ cons_option (f x) [] ≡ filter_map f (take (i + 1) xs)
pushed f xs i x within is =
    sym (filter_map-append f (take i xs) (x ∷ [])) ∙ ap (λ y. filter_map f (take i xs ++ y ∷ [])) is
    ∙ ap (filter_map f) (sym (take_more xs i x within))
