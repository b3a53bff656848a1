-- Two lists whose members are related place by place: their filtered and mapped lists are related too, or are
-- the same.
use Rattle.std.proofs.Common.{◌≡◌, Bool, true, false, cond, List, [], ◌∷◌, ◌++◌, map, Option, None, Some, refl, sym, ap, ◌∙◌, subst, inl, inr}
use Rattle.std.specs.Prelude.{◌||◌}
use Rattle.std.specs.List.{AllZip, cons_option, filter, filter_map, flat_map, list_any}
use Rattle.area_graph.proofs.MemberLemmas.{In}

-- two optional values, both none or both related
abbrev pub AreBoth : {X Y : Type 0} → (X → Y → Type 0) → Option X → Option Y → Type 0
AreBoth R None None = Unit {0}
AreBoth R None (Some y) = ⊥
AreBoth R (Some x) None = ⊥
AreBoth R (Some x) (Some y) = R x y

pub zip-itself : {X : Type 0} (R : X → X → Type 0) → ((x : X) → R x x) → (xs : List X) → AllZip R xs xs
zip-itself R own [] = tt
zip-itself R own (x ∷ xs) = (own x, zip-itself R own xs)

module _ {X Y : Type 0} (R : X → Y → Type 0) where
  pub left-In : (xs : List X) (ys : List Y) → AllZip R xs ys → (x : X) → In xs x → (y : Y) × In ys y × R x y
  left-In [] ys h x i = absurd i
  left-In (z ∷ xs) [] h x i = absurd h
  left-In (z ∷ xs) (w ∷ ys) h x (inl p) = (w, inl refl, subst (λ (u : X). R u w) p h.0)
  left-In (z ∷ xs) (w ∷ ys) h x (inr i) = let r = left-In xs ys h.1 x i in (r.0, inr r.1, r.2)

  pub right-In : (xs : List X) (ys : List Y) → AllZip R xs ys → (y : Y) → In ys y → (x : X) × In xs x × R x y
  right-In xs [] h y i = absurd i
  right-In [] (w ∷ ys) h y i = absurd h
  right-In (z ∷ xs) (w ∷ ys) h y (inl p) = (z, inl refl, subst (λ (u : Y). R z u) p h.0)
  right-In (z ∷ xs) (w ∷ ys) h y (inr i) = let r = right-In xs ys h.1 y i in (r.0, inr r.1, r.2)

  pub zip-append : (xs us : List X) (ys vs : List Y) → AllZip R xs ys → AllZip R us vs → AllZip R (xs ++ us) (ys ++ vs)
  zip-append [] us [] vs h k = k
  zip-append [] us (y ∷ ys) vs h k = absurd h
  zip-append (x ∷ xs) us [] vs h k = absurd h
  zip-append (x ∷ xs) us (y ∷ ys) vs h k = (h.0, zip-append xs us ys vs h.1 k)

  -- a test with the same result on related members
  module _ (p : X → Bool) (q : Y → Bool) (alike : (x : X) (y : Y) → R x y → q y ≡ p x) where
    pub zip-filter : (xs : List X) (ys : List Y) → AllZip R xs ys → AllZip R (filter p xs) (filter q ys)
    zip-filter [] [] h = tt
    zip-filter [] (y ∷ ys) h = absurd h
    zip-filter (x ∷ xs) [] h = absurd h
    zip-filter (x ∷ xs) (y ∷ ys) h =
        subst (λ (b : Bool). AllZip R (cond (p x) (x ∷ filter p xs) (filter p xs)) (cond b (y ∷ filter q ys) (filter q ys)))
        (sym (alike x y h.0)) (by (p x) (zip-filter xs ys h.1))
      where
        by : (b : Bool) → AllZip R (filter p xs) (filter q ys)
            → AllZip R (cond b (x ∷ filter p xs) (filter p xs)) (cond b (y ∷ filter q ys) (filter q ys))
        by true rest = (h.0, rest)
        by false rest = rest

    pub zip-any : (xs : List X) (ys : List Y) → AllZip R xs ys → list_any q ys ≡ list_any p xs
    zip-any [] [] h = refl
    zip-any [] (y ∷ ys) h = absurd h
    zip-any (x ∷ xs) [] h = absurd h
    zip-any (x ∷ xs) (y ∷ ys) h = λ i. alike x y h.0 i || zip-any xs ys h.1 i

  module _ {Z : Type 0} where
    pub same-filter_map : (f : X → Option Z) (g : Y → Option Z) → ((x : X) (y : Y) → R x y → g y ≡ f x)
        → (xs : List X) (ys : List Y) → AllZip R xs ys → filter_map g ys ≡ filter_map f xs
    same-filter_map f g alike [] [] h = refl
    same-filter_map f g alike [] (y ∷ ys) h = absurd h
    same-filter_map f g alike (x ∷ xs) [] h = absurd h
    same-filter_map f g alike (x ∷ xs) (y ∷ ys) h = λ i. cons_option (alike x y h.0 i) (same-filter_map f g alike xs ys h.1 i)

    pub same-flat_map : (f : X → List Z) (g : Y → List Z) → ((x : X) (y : Y) → R x y → g y ≡ f x)
        → (xs : List X) (ys : List Y) → AllZip R xs ys → flat_map g ys ≡ flat_map f xs
    same-flat_map f g alike [] [] h = refl
    same-flat_map f g alike [] (y ∷ ys) h = absurd h
    same-flat_map f g alike (x ∷ xs) [] h = absurd h
    same-flat_map f g alike (x ∷ xs) (y ∷ ys) h = λ i. alike x y h.0 i ++ same-flat_map f g alike xs ys h.1 i

  module _ {A B : Type 0} (S : A → B → Type 0) where
    pub zip-map : (f : X → A) (g : Y → B) → ((x : X) (y : Y) → R x y → S (f x) (g y)) → (xs : List X) (ys : List Y)
        → AllZip R xs ys → AllZip S (map f xs) (map g ys)
    zip-map f g both [] [] h = tt
    zip-map f g both [] (y ∷ ys) h = absurd h
    zip-map f g both (x ∷ xs) [] h = absurd h
    zip-map f g both (x ∷ xs) (y ∷ ys) h = (both x y h.0, zip-map f g both xs ys h.1)

    pub zip-filter_map : (f : X → Option A) (g : Y → Option B) → ((x : X) (y : Y) → R x y → AreBoth S (f x) (g y))
        → (xs : List X) (ys : List Y) → AllZip R xs ys → AllZip S (filter_map f xs) (filter_map g ys)
    zip-filter_map f g both [] [] h = tt
    zip-filter_map f g both [] (y ∷ ys) h = absurd h
    zip-filter_map f g both (x ∷ xs) [] h = absurd h
    zip-filter_map f g both (x ∷ xs) (y ∷ ys) h = by (f x) (g y) (both x y h.0) (zip-filter_map f g both xs ys h.1)
      where
        by : (a : Option A) (b : Option B) → AreBoth S a b → AllZip S (filter_map f xs) (filter_map g ys)
            → AllZip S (cons_option a (filter_map f xs)) (cons_option b (filter_map g ys))
        by None None one rest = rest
        by None (Some b) one rest = absurd one
        by (Some a) None one rest = absurd one
        by (Some a) (Some b) one rest = (one, rest)

-- the same for lists that each member gives
pub zip-flat_map : {X Y A B : Type 0} (R : X → Y → Type 0) (S : A → B → Type 0) (f : X → List A) (g : Y → List B)
    → ((x : X) (y : Y) → R x y → AllZip S (f x) (g y)) → (xs : List X) (ys : List Y) → AllZip R xs ys → AllZip S (flat_map f xs) (flat_map g ys)
zip-flat_map R S f g both [] [] h = tt
zip-flat_map R S f g both [] (y ∷ ys) h = absurd h
zip-flat_map R S f g both (x ∷ xs) [] h = absurd h
zip-flat_map R S f g both (x ∷ xs) (y ∷ ys) h =
    zip-append S (f x) (flat_map f xs) (g y) (flat_map g ys) (both x y h.0) (zip-flat_map R S f g both xs ys h.1)

-- where related members that pass a test are the same, those that pass are the same list
pub same-filter : {X : Type 0} (R : X → X → Type 0) (p : X → Bool) → ((x y : X) → R x y → p y ≡ p x) → ((x y : X) → R x y → p x ≡ true → y ≡ x)
    → (xs ys : List X) → AllZip R xs ys → filter p ys ≡ filter p xs
same-filter R p alike same [] [] h = refl
same-filter R p alike same [] (y ∷ ys) h = absurd h
same-filter R p alike same (x ∷ xs) [] h = absurd h
same-filter {X} R p alike same (x ∷ xs) (y ∷ ys) h = by (p x) refl (same-filter R p alike same xs ys h.1)
  where
    by : (b : Bool) → p x ≡ b → filter p ys ≡ filter p xs → cond (p y) (y ∷ filter p ys) (filter p ys) ≡ cond b (x ∷ filter p xs) (filter p xs)
    by true is rest =
        ap (λ (c : Bool). cond c (y ∷ filter p ys) (filter p ys)) (alike x y h.0 ∙ is) ∙ (λ i. same x y h.0 is i ∷ rest i)
    by false is rest = ap (λ (c : Bool). cond c (y ∷ filter p ys) (filter p ys)) (alike x y h.0 ∙ is) ∙ rest
