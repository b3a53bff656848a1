-- One map after another.
use Rattle.std.proofs.Common.{◌≡◌, List, [], ◌∷◌, map, refl, ap}

pub map_twice : {X Y Z : Type 0} (f : Y → Z) (g : X → Y) (xs : List X) → map (λ x. f (g x)) xs ≡ map f (map g xs)
map_twice f g [] = refl
map_twice {Z = Z} f g (x ∷ xs) = ap (λ (zs : List Z). f (g x) ∷ zs) (map_twice f g xs)
