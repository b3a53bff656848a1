-- Tests over lists.
use Rattle.std.proofs.Common.{◌≡◌, Bool, true, false, List, [], ◌∷◌, ◌++◌, map, refl, sym, ap, ◌∙◌}
use Rattle.std.specs.Prelude.{◌&&◌, ◌||◌}
use Rattle.std.specs.List.{list_any}
use Rattle.std.proofs.lemmas.Bool.{or_parts, or_from, false_from_ne_true, true≢false}
use Rattle.std.proofs.lemmas.List.Folds.{list_any-append}

pub and_assoc : (a b c : Bool) → ((a && b) && c) ≡ (a && (b && c))
and_assoc true b c = refl
and_assoc false b c = refl

pub and_true : (a : Bool) → (a && true) ≡ a
and_true true = refl
and_true false = refl

and_false : (a : Bool) → (a && false) ≡ false
and_false true = refl
and_false false = refl

module _ {X : Type 0} where
  pub any_map : {Y : Type 0} (f : X → Y) (p : Y → Bool) (xs : List X) → list_any p (map f xs) ≡ list_any (λ x. p (f x)) xs
  any_map f p [] = refl
  any_map f p (x ∷ xs) = ap (λ r. p (f x) || r) (any_map f p xs)

  pub any_same : (p q : X → Bool) → ((x : X) → p x ≡ q x) → (xs : List X) → list_any p xs ≡ list_any q xs
  any_same p q h xs i = list_any (λ x. h x i) xs

  -- where a test fails, a stronger one does
  pub any_weaker : (p q : X → Bool) → ((x : X) → q x ≡ false → p x ≡ false) → (xs : List X) → list_any q xs ≡ false → list_any p xs ≡ false
  any_weaker p q h [] e = refl
  any_weaker p q h (x ∷ xs) e = let parts = or_parts (q x) (list_any q xs) e in or_from (p x) (list_any p xs) (h x parts.0) (any_weaker p q h xs parts.1)

  -- where a test passes, a weaker one does
  pub any_stronger : (p q : X → Bool) → ((x : X) → p x ≡ true → q x ≡ true) → (xs : List X) → list_any p xs ≡ true → list_any q xs ≡ true
  any_stronger p q h xs e = by (list_any q xs) refl
    where
      by : (b : Bool) → list_any q xs ≡ b → b ≡ true
      by true is = refl
      by false is =
          sym (any_weaker p q (λ x no. false_from_ne_true (p x) (λ yes. true≢false (sym (h x yes) ∙ no))) xs is) ∙ e

  pub any_true : (t : X → Bool) (xs : List X) → list_any (λ x. t x && true) xs ≡ list_any t xs
  any_true t xs = any_same (λ x. t x && true) t (λ x. and_true (t x)) xs

  -- where a test passes, so does the test with a part that is the same for all, just where this part is true
  pub any_const : (t : X → Bool) (k : Bool) (xs : List X) → list_any t xs ≡ true → k ≡ list_any (λ x. t x && k) xs
  any_const t true xs some = sym (any_true t xs ∙ some)
  any_const t false xs some = sym (none xs)
    where
      none : (ys : List X) → list_any (λ x. t x && false) ys ≡ false
      none [] = refl
      none (y ∷ ys) = or_from (t y && false) (list_any (λ x. t x && false) ys) (and_false (t y)) (none ys)

  -- a test over two lists, each in place of another
  pub any_both : (p : X → Bool) (xs ys zs ws : List X) → list_any p ys ≡ list_any p xs → list_any p ws ≡ list_any p zs
      → list_any p (ys ++ ws) ≡ list_any p (xs ++ zs)
  any_both p xs ys zs ws h k = list_any-append p ys ws ∙ (λ i. h i || k i) ∙ sym (list_any-append p xs zs)
