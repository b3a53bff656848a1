-- The first least element of those that pass a test, with one more element.
use Rattle.std.proofs.Common.{Bor, IfSome, ◌≡◌, ℕ, ◌+◌, ◌<◌, Bool, true, false, cond, List, [], ◌∷◌, ◌++◌, take, get_or, length, Option, Some, None}
use Rattle.std.proofs.Common.{refl, sym, ap, subst, ◌∙◌}
use Rattle.std.specs.List.{All, filter}
use Rattle.std.specs.Option.{option_copied}
use Rattle.std.specs.Ordering.{is_lt}
use Rattle.std.specs.Cmp.{IsTotalOrder}
use Rattle.std.specs.declared.cmp.Ordering.{Ordering}
use Rattle.std.proofs.lemmas.List.{append-nil, take_more}
use Rattle.std.proofs.lemmas.List.Elements.{All-filter, All-head, All-tail, filter-append}
use Rattle.area_graph.specs.Least.{later, least, lesser}
use Rattle.best_ways.proofs.LeastLemmas.{least_push}

module _ {K : Type 0} (R : K → K → Ordering) (P : K → Type 0) where
  -- the least of a list has what all have
  pub least_all : (xs : List K) (x : K) → All P xs → Some x ≡ least R xs → P x
  least_all [] x a h = cc
  least_all (y ∷ ys) x a h = by (least R ys) refl h (λ m. least_all ys m (All-tail P y ys a))
    where
      chosen : (b : Bool) (m : K) → P m → Some x ≡ Some (cond b m y) → P x
      chosen true m pm k = let same : m ≡ x = cc in subst P same pm
      chosen false m pm k = let same : y ≡ x = cc in subst P same (All-head P y ys a)

      by : (m : Option K) → least R ys ≡ m → Some x ≡ Some (lesser R y m) → ((m : K) → Some m ≡ least R ys → P m) → P x
      by None e k rest = let same : y ≡ x = cc in subst P same (All-head P y ys a)
      by (Some m) e k rest = chosen (is_lt (R m y)) m (rest m (sym e)) k

  pub first_all : (p : K → Bool) (xs : List K) (x : K) → All P xs → Some x ≡ least R (filter p xs) → P x
  first_all p xs x a h = least_all (filter p xs) x (All-filter p P xs a) h

module _ {K : Type 0} {R : K → K → Ordering} (o : IsTotalOrder R) (p : K → Bool) where
  pub first_push : (xs : List K) (x : K) → least R (filter p (xs ++ x ∷ [])) ≡ cond (p x) (Some (later R (least R (filter p xs)) x)) (least R (filter p xs))
  first_push xs x = ap (least R) (filter-append p xs (x ∷ [])) ∙ by (p x)
    where
      by : (b : Bool) → least R (filter p xs ++ cond b (x ∷ []) []) ≡ cond b (Some (later R (least R (filter p xs)) x)) (least R (filter p xs))
      by true = least_push o (filter p xs) x
      by false = ap (least R) (append-nil (filter p xs)) ∙ refl

  -- a loop's step at place i
  pub first_more : (xs : List K) (i : ℕ) (x : K) → i < length xs → x ≡ get_or xs i x
      → least R (filter p (take (i + 1) xs)) ≡ cond (p x) (Some (later R (least R (filter p (take i xs))) x)) (least R (filter p (take i xs)))
  first_more xs i x l item = ap (λ ys. least R (filter p ys)) (take_more xs i x l ∙ ap (λ y. take i xs ++ y ∷ []) (sym item)) ∙ first_push (take i xs) x

  module _ (xs : List K) (i : ℕ) (x : K) (l : i < length xs) (item : x ≡ get_or xs i x) (best : Option K) (before : best ≡ least R (filter p (take i xs))) where
    pub first_yes : p x ≡ true → Some (later R best x) ≡ least R (filter p (take (i + 1) xs))
    first_yes e = ap (λ o. Some (later R o x)) before
        ∙ sym (first_more xs i x l item ∙ ap (λ b. cond b (Some (later R (least R (filter p (take i xs))) x)) (least R (filter p (take i xs)))) e)

    pub first_no : p x ≡ false → best ≡ least R (filter p (take (i + 1) xs))
    first_no e = before
        ∙ sym (first_more xs i x l item ∙ ap (λ b. cond b (Some (later R (least R (filter p (take i xs))) x)) (least R (filter p (take i xs)))) e)

-- what all have, the first least one also has, read through its reference
pub first_has : {K : Type 0} (R : K → K → Ordering) (P : K → Type 0) (p : K → Bool) (xs : List K) (r : Option (Bor K))
    → All P xs → option_copied r ≡ least R (filter p xs) → IfSome r (λ x. P x.now)
first_has R P p xs None a h = tt
first_has R P p xs (Some x) a h = first_all R P p xs x.now a h
