-- Lists that are joined from the pieces of the same items.
use Rattle.std.proofs.Common.{◌≡◌, ℕ, zero, suc, ◌<◌, ◌⊎◌, inl, inr, sym, subst, List, [], ◌∷◌, ◌++◌, length, get_or, arith}
use Rattle.std.specs.Prelude.{All, Contains}
use Rattle.std.specs.List.{flat_map}
use Rattle.std.proofs.lemmas.List.Concat.{flat_map-cons}
use Rattle.std.proofs.lemmas.List.Elements.{All-append, All-contains_itself, All-head, All-nil, All-tail, All-weaker, Contains-append_left, Contains-append_right}
use Rattle.lsa_instances.specs.Newest.{AreSame}

contains_cases : {X : Type 0} (y : X) (ys : List X) (k : ℕ) (x : X)
    → k < length (y ∷ ys) → get_or (y ∷ ys) k x ≡ x → (y ≡ x) ⊎ Contains ys x
contains_cases y ys zero x l e = inl e
contains_cases y ys (suc k) x l e = inr (k, omega arith, e)

module _ {X Y : Type 0} (f : X → List Y) where
  abbrev pub AreThere : List X → X → Type 0
  AreThere ys x = All (Contains (flat_map f ys)) (f x)

  first : (y : X) (ys : List X) → AreThere (y ∷ ys) y
  first y ys =
      let P : List Y → Type 0 = λ all. All (Contains all) (f y) in
      subst P (sym (flat_map-cons f y ys))
      (All-weaker (Contains (f y)) (Contains (f y ++ flat_map f ys)) (λ z h. Contains-append_left (f y) (flat_map f ys) z h) (f y) (All-contains_itself (f y)))

  later : (x y : X) (ys : List X) → AreThere ys x → AreThere (y ∷ ys) x
  later x y ys h =
      let P : List Y → Type 0 = λ all. All (Contains all) (f x) in
      subst P (sym (flat_map-cons f y ys))
      (All-weaker (Contains (flat_map f ys)) (Contains (f y ++ flat_map f ys)) (λ z k. Contains-append_right (f y) (flat_map f ys) z k) (f x) h)

  -- the piece of an item is there
  piece_there : (ys : List X) (x : X) → Contains ys x → AreThere ys x
  piece_there [] x h = absurd (omega (arith, h.1))
  piece_there (y ∷ ys) x h =
      let P : X → Type 0 = λ z. AreThere (y ∷ ys) z in
      elim (contains_cases y ys h.0 x h.1 h.2) as (λ _. AreThere (y ∷ ys) x) [
        | inl e ↦ subst P e (first y ys)
        | inr k ↦ later x y ys (piece_there ys x k)
      ]

  within : (xs ys : List X) → All (Contains ys) xs → All (Contains (flat_map f ys)) (flat_map f xs)
  within [] ys h = All-nil (Contains (flat_map f ys))
  within (x ∷ xs) ys h =
      let all = flat_map f ys in
      let P : List Y → Type 0 = λ pieces. All (Contains all) pieces in
      subst P (sym (flat_map-cons f x xs))
      (All-append (Contains all) (f x) (flat_map f xs) (piece_there ys x (All-head (Contains ys) x xs h)) (within xs ys (All-tail (Contains ys) x xs h)))

  pub same_pieces : (xs ys : List X) → AreSame xs ys → AreSame (flat_map f xs) (flat_map f ys)
  same_pieces xs ys h = (within xs ys h.0, within ys xs h.1)
