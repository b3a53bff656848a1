-- Two lists in strict order with the same values are the same values in the same order.
use Rattle.std.proofs.Common.{◌≡◌, ℕ, zero, suc, ◌<◌, ◌⊎◌, refl, sym, ◌∙◌, ap, subst, inl, inr, List, [], ◌∷◌, length, get_or, map, arith}
use Rattle.std.specs.Prelude.{All, AllPairs}
use Rattle.std.specs.List.{Any}
use Rattle.std.proofs.lemmas.List.Elements.{All-head, All-tail}

any_cons : {X : Type 0} (P : X → Type 0) (y : X) (ys : List X) (k : ℕ) (x : X)
    → k < length (y ∷ ys) → get_or (y ∷ ys) k x ≡ x → P x → P y ⊎ Any P ys
any_cons P y ys zero x l e h = inl (subst P (sym e) h)
any_cons P y ys (suc k) x l e h = inr (k, x, omega arith, e, h)

pub pairs_head : {X : Type 0} (R : X → X → Type 0) (x : X) (xs : List X) → AllPairs R (x ∷ xs) → All (R x) xs
pairs_head R x xs h = λ k d l. h 0 (suc k) d (omega arith) (omega arith)

pub pairs_tail : {X : Type 0} (R : X → X → Type 0) (x : X) (xs : List X) → AllPairs R (x ∷ xs) → AllPairs R xs
pairs_tail R x xs h = λ i j d l m. h (suc i) (suc j) d (omega arith) (omega arith)

-- two lists in strict order by a value, each of whose values is one of the other's, have the same values
module _ {X V : Type 0} (val : X → V) (less : V → V → Type 0) (asym : (v w : V) → less v w → less w v → ⊥) where
  abbrev pub IsLess : X → X → Type 0
  IsLess x y = less (val x) (val y)

  abbrev pub IsIn : List X → X → Type 0
  IsIn ys x = Any (λ z. val z ≡ val x) ys

  below : (y : X) (ys : List X) → All (IsLess y) ys → (v : V) → Any (λ z. val z ≡ v) ys → less (val y) v
  below y ys h v a =
      let P : V → Type 0 = λ w. less (val y) w in
      subst P (ap val a.3 ∙ a.4) (h a.0 a.1 a.2)

  later : (x y u : X) (ys : List X) → val x ≡ val y → IsLess x u → IsIn (y ∷ ys) u → IsIn ys u
  later x y u ys e r a =
      let P : V → Type 0 = λ v. less (val x) v in
      elim (any_cons (λ z. val z ≡ val u) y ys a.0 a.1 a.2 a.3 a.4) as (λ _. IsIn ys u) [
        | inl p ↦ let q = subst P (sym (e ∙ p)) r in absurd (asym (val x) (val x) q q)
        | inr b ↦ b
      ]

  tail_in : (x y : X) (xs ys : List X) → val x ≡ val y → All (IsLess x) xs → All (IsIn (y ∷ ys)) xs → All (IsIn ys) xs
  tail_in x y xs ys e r h = λ k d l. later x y (get_or xs k d) ys e (r k d l) (h k d l)

  heads : (x y : X) (xs ys : List X) → All (IsLess x) xs → All (IsLess y) ys → IsIn (y ∷ ys) x → IsIn (x ∷ xs) y → val x ≡ val y
  heads x y xs ys r s a b =
      elim (any_cons (λ z. val z ≡ val x) y ys a.0 a.1 a.2 a.3 a.4) as (λ _. val x ≡ val y) [
        | inl p ↦ sym p
        | inr c ↦ elim (any_cons (λ z. val z ≡ val y) x xs b.0 b.1 b.2 b.3 b.4) as (λ _. val x ≡ val y) [
          | inl q ↦ q
          | inr d ↦ absurd (asym (val x) (val y) (below x xs r (val y) d) (below y ys s (val x) c))
        ]
      ]

  pub same_values : (xs ys : List X) → AllPairs IsLess xs → AllPairs IsLess ys → All (IsIn ys) xs → All (IsIn xs) ys → map val xs ≡ map val ys
  same_values [] [] p q a b = refl
  same_values [] (y ∷ ys) p q a b = let c = b 0 y (omega arith) in absurd (omega (arith, c.2))
  same_values (x ∷ xs) [] p q a b = let c = a 0 x (omega arith) in absurd (omega (arith, c.2))
  same_values (x ∷ xs) (y ∷ ys) p q a b =
      let r = pairs_head IsLess x xs p in
      let s = pairs_head IsLess y ys q in
      let e = heads x y xs ys r s (All-head (IsIn (y ∷ ys)) x xs a) (All-head (IsIn (x ∷ xs)) y ys b) in
      let rest = same_values xs ys (pairs_tail IsLess x xs p) (pairs_tail IsLess y ys q)
      (tail_in x y xs ys e r (All-tail (IsIn (y ∷ ys)) x xs a)) (tail_in y x ys xs (sym e) s (All-tail (IsIn (x ∷ xs)) y ys b)) in
      ap (λ v. v ∷ map val xs) e ∙ ap (λ vs. val y ∷ vs) rest
