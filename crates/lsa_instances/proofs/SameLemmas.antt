-- Lists of the same elements, in any order, each any number of times.
use Rattle.std.proofs.Common.{◌≡◌, refl, sym, Bool, true, false, List}
use Rattle.std.specs.Prelude.{All, Contains, IsPermutation}
use Rattle.std.specs.List.{list_any}
use Rattle.std.proofs.lemmas.List.Elements.{All-contains, All-contains_itself, All-weaker}
use Rattle.std.proofs.lemmas.List.Folds.{Any-from_list_any, list_any-from_Any}
use Rattle.std.proofs.lemmas.List.Sorted.{All-permutation, Contains-permutation}
use Rattle.lsa_instances.specs.Newest.{AreSame}

both : (a b : Bool) → (a ≡ true → b ≡ true) → (b ≡ true → a ≡ true) → a ≡ b
both true true f g = refl
both true false f g = sym (f refl)
both false true f g = g refl
both false false f g = refl

module _ {X : Type 0} (xs ys : List X) where
  pub same_in_order : IsPermutation xs ys → AreSame xs ys
  same_in_order h =
      let all = All-contains_itself xs in
      (All-weaker (Contains xs) (Contains ys) (λ x k. Contains-permutation xs ys x h k) xs all, All-permutation (Contains xs) xs ys h all)

  pub all_of : (P : X → Type 0) → All (Contains xs) ys → All P xs → All P ys
  all_of P within h = All-weaker (Contains xs) P (λ x k. All-contains P xs x h k) ys within

  some_of : (p : X → Bool) → All (Contains ys) xs → list_any p xs ≡ true → list_any p ys ≡ true
  some_of p within h =
      let a = Any-from_list_any p xs h in
      let c = All-contains (Contains ys) xs a.1 within (a.0, a.2, a.3) in
      list_any-from_Any p ys (c.0, a.1, c.1, c.2, a.4)

pub any_same : {X : Type 0} (p : X → Bool) (xs ys : List X) → AreSame xs ys → list_any p xs ≡ list_any p ys
any_same p xs ys h = both (list_any p xs) (list_any p ys) (some_of xs ys p h.0) (some_of ys xs p h.1)
