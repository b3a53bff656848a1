-- Whether one of some areas meets a condition, one area after another.
use Rattle.std.proofs.Common.{◌≡◌, ℕ, zero, suc, ◌+◌, Bool, true, false, ◌&&◌, ◌||◌, cond, List, [], ◌∷◌, take, filter, Some, refl, sym, ap, ◌∙◌}
use Rattle.std.specs.List.{list_any, slice_get}
use Rattle.std.proofs.lemmas.List.Folds.{list_any_more}
use Rattle.std.proofs.lemmas.Option.{get_or_from_slice_get, slice_get_within}
use Rattle.lsdb.specs.Lists.{AreaHead}

any_at : {X : Type 0} (p : X → Bool) (xs : List X) (i : ℕ) (x : X) → slice_get xs i ≡ Some x → p x ≡ true → list_any p xs ≡ true
any_at p [] i x h t = cc
any_at p (y ∷ ys) zero x h t = let same : y ≡ x = cc in ap (λ a. p a || list_any p ys) same ∙ ap (λ b. b || list_any p ys) t
any_at p (y ∷ ys) (suc i) x h t = ap (λ b. p y || b) (any_at p ys i x h t) ∙ by (p y)
  where
    by : (b : Bool) → (b || true) ≡ true
    by true = refl
    by false = refl

and_true : (b : Bool) → (b && true) ≡ b
and_true true = refl
and_true false = refl

and_false : (b : Bool) → (b && false) ≡ false
and_false true = refl
and_false false = refl

-- whether one that is chosen meets a condition
pub any_filter : {X : Type 0} (p q : X → Bool) (xs : List X) → list_any p (filter q xs) ≡ list_any (λ x. p x && q x) xs
any_filter p q [] = refl
any_filter p q (x ∷ xs) = by (q x) (any_filter p q xs)
  where
    by : (b : Bool) → list_any p (filter q xs) ≡ list_any (λ y. p y && q y) xs
        → list_any p (cond b (x ∷ filter q xs) (filter q xs)) ≡ ((p x && b) || list_any (λ y. p y && q y) xs)
    by true rest = ap (λ c. c || list_any p (filter q xs)) (sym (and_true (p x))) ∙ ap (λ c. (p x && true) || c) rest
    by false rest = rest ∙ ap (λ c. c || list_any (λ y. p y && q y) xs) (sym (and_false (p x)))

module _ (meets : AreaHead → Bool) (areas : List AreaHead) (i : ℕ) (head : AreaHead) (here : slice_get areas i ≡ Some head) where
  -- an area that meets the condition
  pub area_found : meets head ≡ true → list_any meets areas ≡ true
  area_found met = any_at meets areas i head here met

  -- an area that does not
  pub area_passed : list_any meets (take i areas) ≡ false → meets head ≡ false → list_any meets (take (i + 1) areas) ≡ false
  area_passed before unmet =
      list_any_more meets areas i head (slice_get_within areas i head here)
      ∙ ap (λ area. list_any meets (take i areas) || meets area) (get_or_from_slice_get areas i head head here)
      ∙ ap (λ b. b || meets head) before ∙ unmet
