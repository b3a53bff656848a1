-- What is made of items, as they are seen.
use Rattle.std.proofs.Common.{◌≡◌, List, [], ◌∷◌, map, refl, ap}

pub map-map : {X Y C : Type 0} (f : Y → C) (view : X → Y) (xs : List X) → map (λ x. f (view x)) xs ≡ map f (map view xs)
map-map f view [] = refl
map-map {X} {Y} {C} f view (x ∷ xs) = ap (λ (cs : List C). f (view x) ∷ cs) (map-map f view xs)
