-- Lists whose members are each related to all later ones.
use Rattle.std.proofs.Common.{◌≡◌, Bool, true, false, cond, List, [], ◌∷◌, ◌++◌, map, get_or, Option, None, Some, suc, refl, sym}
use Rattle.std.proofs.Common.{arith, ⊎_elim, inl, inr}
use Rattle.std.specs.List.{AllPairs, cons_option, filter, filter_map, flat_map}
use Rattle.std.proofs.lemmas.List.Elements.{All-contains, Contains-get_or}
use Rattle.std.proofs.lemmas.List.Kept.{AllPairs-cons}
use Rattle.area_graph.proofs.MemberLemmas.{Contains-from_In, In, In-cases, In-from_Contains, In-map, filter-In, filter_map-In, flat_map-In}

-- the same as `AllPairs`, by recursion
abbrev pub Pairs : {X : Type 0} → (X → X → Type 0) → List X → Type 0
Pairs R [] = Unit {0}
Pairs R (x ∷ xs) = ((y : _) → In xs y → R x y) × Pairs R xs

module _ {X : Type 0} (R : X → X → Type 0) where
  pub Pairs-from : (xs : List X) → AllPairs R xs → Pairs R xs
  Pairs-from [] pairs = tt
  Pairs-from (x ∷ xs) pairs = (
    λ y i. All-contains (R x) xs y (λ k d lt. pairs 0 (suc k) d (omega arith) (omega (arith, lt))) (Contains-from_In xs y i),
    Pairs-from xs (λ i j d below lt. pairs (suc i) (suc j) d (omega (arith, below)) (omega (arith, lt))),
  )

  pub AllPairs-from : (xs : List X) → Pairs R xs → AllPairs R xs
  AllPairs-from [] pairs = λ i j d below lt. absurd (omega (arith, lt))
  AllPairs-from (x ∷ xs) pairs =
      AllPairs-cons R x xs (λ k d lt. pairs.0 (get_or xs k d) (In-from_Contains xs (get_or xs k d) (Contains-get_or xs k d lt))) (AllPairs-from xs pairs.1)

  pub Pairs-append : (xs ys : List X) → Pairs R xs → Pairs R ys → ((x y : X) → In xs x → In ys y → R x y) → Pairs R (xs ++ ys)
  Pairs-append [] ys p q across = q
  Pairs-append (x ∷ xs) ys p q across = (
    λ y i. ⊎_elim (λ j. p.0 y j) (λ j. across x y (inl refl) j) (In-cases xs ys y i),
    Pairs-append xs ys p.1 q (λ a b i j. across a b (inr i) j),
  )

  pub Pairs-filter : (p : X → Bool) (xs : List X) → Pairs R xs → Pairs R (filter p xs)
  Pairs-filter p [] pairs = tt
  Pairs-filter p (x ∷ xs) pairs = by (p x) (Pairs-filter p xs pairs.1)
    where
      by : (b : Bool) → Pairs R (filter p xs) → Pairs R (cond b (x ∷ filter p xs) (filter p xs))
      by true rest = (λ y i. pairs.0 y (filter-In p xs y i).0, rest)
      by false rest = rest

module _ {X Y : Type 0} (S : X → X → Type 0) (R : Y → Y → Type 0) where
  pub Pairs-map : (f : X → Y) (xs : List X) → ((x z : X) → S x z → R (f x) (f z)) → Pairs S xs → Pairs R (map f xs)
  Pairs-map f [] each pairs = tt
  Pairs-map f (x ∷ xs) each pairs = (λ y i. all xs (λ z j. each x z (pairs.0 z j)) y i, Pairs-map f xs each pairs.1)
    where
      all : (zs : List X) → ((z : X) → In zs z → R (f x) (f z)) → (y : Y) → In (map f zs) y → R (f x) y
      all [] h y i = absurd i
      all (z ∷ zs) h y (inl e) = rw (sym e) (h z (inl refl))
      all (z ∷ zs) h y (inr i) = all zs (λ w j. h w (inr j)) y i

  pub Pairs-filter_map : (f : X → Option Y) (xs : List X) → ((x z : X) (y w : Y) → S x z → f x ≡ Some y → f z ≡ Some w → R y w)
      → Pairs S xs → Pairs R (filter_map f xs)
  Pairs-filter_map f [] each pairs = tt
  Pairs-filter_map f (x ∷ xs) each pairs = by (f x) refl (Pairs-filter_map f xs each pairs.1)
    where
      by : (o : Option Y) → f x ≡ o → Pairs R (filter_map f xs) → Pairs R (cons_option o (filter_map f xs))
      by None is rest = rest
      by (Some y) is rest = (λ w i. let z = filter_map-In f xs w i in each x z.0 y w (pairs.0 z.0 z.1) is z.2, rest)

  pub Pairs-flat_map : (f : X → List Y) (xs : List X) → ((x : X) → In xs x → Pairs R (f x)) → ((x z : X) (y w : Y) → S x z → In (f x) y → In (f z) w → R y w)
      → Pairs S xs → Pairs R (flat_map f xs)
  Pairs-flat_map f [] within each pairs = tt
  Pairs-flat_map f (x ∷ xs) within each pairs =
      Pairs-append R (f x) (flat_map f xs) (within x (inl refl)) (Pairs-flat_map f xs (λ z i. within z (inr i)) each pairs.1)
      (λ y w i j. let z = flat_map-In f xs w j in each x z.0 y w (pairs.0 z.0 z.1) i z.2)

module _ {X Y : Type 0} (R : Y → Y → Type 0) where
  pub Pairs-unmap : (f : X → Y) (xs : List X) → Pairs R (map f xs) → Pairs (λ x z. R (f x) (f z)) xs
  Pairs-unmap f [] pairs = tt
  Pairs-unmap f (x ∷ xs) pairs = (λ z i. pairs.0 (f z) (In-map f xs z i), Pairs-unmap f xs pairs.1)
