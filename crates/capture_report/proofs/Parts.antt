-- Lists of findings, area after area.
use Rattle.std.proofs.Common.{◌≡◌, ◌∙◌, sym, ap, subst, refl, ℕ, ◌+◌, List, [], ◌∷◌, ◌++◌, take, map, Some}
use Rattle.std.specs.List.{AllZip, flat_map, slice_get}
use Rattle.std.proofs.lemmas.List.{flat_map_more, take_more}
use Rattle.std.proofs.lemmas.Option.{get_or_from_slice_get, slice_get_within}
use Rattle.lsdb.specs.Lists.{AreaHead}

pub zip_push : {X Y : Type 0} (R : X → Y → Type 0) (xs : List X) (ys : List Y) (x : X) (y : Y) → AllZip R xs ys → R x y
    → AllZip R (xs ++ x ∷ []) (ys ++ y ∷ [])
zip_push R [] [] x y all r = (r, tt)
zip_push R [] (b ∷ ys) x y all r = absurd all
zip_push R (a ∷ xs) [] x y all r = absurd all
zip_push R (a ∷ xs) (b ∷ ys) x y all r = (all.0, zip_push R xs ys x y all.1 r)

pub flat_map-map : {X Y Z : Type 0} (f : Y → List Z) (g : X → Y) (xs : List X) → flat_map f (map g xs) ≡ flat_map (λ x. f (g x)) xs
flat_map-map f g [] = refl
flat_map-map f g (x ∷ xs) = ap (λ zs. f (g x) ++ zs) (flat_map-map f g xs)

module _ (areas : List AreaHead) (i : ℕ) (area : AreaHead) (here : slice_get areas i ≡ Some area) where
  one_more : take (i + 1) areas ≡ take i areas ++ area ∷ []
  one_more =
      take_more areas i area (slice_get_within areas i area here)
      ∙ ap (λ a. take i areas ++ a ∷ []) (get_or_from_slice_get areas i area area here)

  pub zip_more : {Y : Type 0} (R : AreaHead → Y → Type 0) (old new : List Y) (y : Y) → AllZip R (take i areas) old → R area y
      → new ≡ old ++ y ∷ [] → AllZip R (take (i + 1) areas) new
  zip_more R old new y before one pushed =
      subst (λ ys. AllZip R (take (i + 1) areas) ys) (sym pushed)
      (subst (λ xs. AllZip R xs (old ++ y ∷ [])) (sym one_more) (zip_push R (take i areas) old area y before one))

  -- what an area gives, after what the areas before it give
  pub flat_map_next : {Y : Type 0} (f : AreaHead → List Y) → flat_map f (take i areas) ++ f area ≡ flat_map f (take (i + 1) areas)
  flat_map_next f = flat_map_more f [] (take i areas) area ∙ ap (flat_map f) (sym one_more)
