-- Membership by recursion on the list, for proofs, and repeated members.
use Rattle.std.proofs.Common.{◌≡◌, ℕ, zero, suc, ◌+◌, ◌<◌, ◌≤◌, Bool, true, false, cond, List, [], ◌∷◌, ◌++◌, map, length, get_or, Option, None, Some}
use Rattle.std.proofs.Common.{refl, sym, ap, ◌∙◌, subst, arith, ◌⊎◌, inl, inr, ⊎_elim}
use Rattle.std.specs.List.{Contains, AllByRecursion, filter, flat_map, filter_map, cons_option, list_all, list_any, slice_get, zip}
use Rattle.std.proofs.lemmas.List.Elements.{All-contains, All-from_recursion, Contains-append_left, Contains-append_right, Contains-push}
use Rattle.std.proofs.lemmas.Bool.{and_parts, and_from, or_cases, or_left, or_right, false≢true}
use Rattle.std.specs.Option.{unwrap_or}
use Rattle.area_graph.specs.AllPaths.{lists_within}

abbrev pub In : {X : Type 0} → List X → X → Type 0
In [] x = ⊥
In (y ∷ ys) x = (y ≡ x) ⊎ In ys x

in_each : {X : Type 0} (zs xs : List X) → ((x : X) → In xs x → In zs x) → AllByRecursion (λ x. In zs x) xs
in_each zs [] h = tt
in_each zs (x ∷ xs) h = (h x (inl refl), in_each zs xs (λ y i. h y (inr i)))

pub In-from_Contains : {X : Type 0} (xs : List X) (x : X) → Contains xs x → In xs x
In-from_Contains xs x h = All-contains (λ y. In xs y) xs x (All-from_recursion (λ y. In xs y) xs (in_each xs xs (λ y i. i))) h

pub Contains-from_In : {X : Type 0} (xs : List X) (x : X) → In xs x → Contains xs x
Contains-from_In [] x h = absurd h
Contains-from_In {X} (y ∷ ys) x (inl p) = Contains-append_left (y ∷ []) ys x (subst (λ (z : X). Contains (y ∷ []) z) p (Contains-push [] y))
Contains-from_In (y ∷ ys) x (inr i) = Contains-append_right (y ∷ []) ys x (Contains-from_In ys x i)

module _ {X : Type 0} where
  pub In-left : (xs ys : List X) (x : X) → In xs x → In (xs ++ ys) x
  In-left [] ys x h = absurd h
  In-left (z ∷ xs) ys x (inl p) = inl p
  In-left (z ∷ xs) ys x (inr i) = inr (In-left xs ys x i)

  pub In-right : (xs ys : List X) (x : X) → In ys x → In (xs ++ ys) x
  In-right [] ys x h = h
  In-right (z ∷ xs) ys x h = inr (In-right xs ys x h)

  pub In-cases : (xs ys : List X) (x : X) → In (xs ++ ys) x → In xs x ⊎ In ys x
  In-cases [] ys x h = inr h
  In-cases (z ∷ xs) ys x (inl p) = inl (inl p)
  In-cases (z ∷ xs) ys x (inr i) = ⊎_elim (λ a. inl (inr a)) (λ b. inr b) (In-cases xs ys x i)

  pub In-filter : (p : X → Bool) (xs : List X) (x : X) → In xs x → p x ≡ true → In (filter p xs) x
  In-filter p [] x h t = absurd h
  In-filter p (z ∷ xs) x (inl q) t = subst (λ (b : Bool). In (cond b (z ∷ filter p xs) (filter p xs)) x) (sym (ap p q ∙ t)) (inl q)
  In-filter p (z ∷ xs) x (inr i) t = by_test (p z) (In-filter p xs x i t)
    where
      by_test : (b : Bool) → In (filter p xs) x → In (cond b (z ∷ filter p xs) (filter p xs)) x
      by_test true j = inr j
      by_test false j = j

  pub filter-In : (p : X → Bool) (xs : List X) (x : X) → In (filter p xs) x → In xs x × (p x ≡ true)
  filter-In p [] x h = absurd h
  filter-In p (z ∷ xs) x h = by_test (p z) refl h (filter-In p xs x)
    where
      by_test : (b : Bool) → p z ≡ b → In (cond b (z ∷ filter p xs) (filter p xs)) x → (In (filter p xs) x → In xs x × (p x ≡ true))
          → In (z ∷ xs) x × (p x ≡ true)
      by_test true is (inl q) rest = (inl q, ap p (sym q) ∙ is)
      by_test true is (inr i) rest = (let r = rest i in (inr r.0, r.1))
      by_test false is i rest = (let r = rest i in (inr r.0, r.1))

  pub list_all-In : (p : X → Bool) (xs : List X) → list_all p xs ≡ true → (x : X) → In xs x → p x ≡ true
  list_all-In p [] h x i = absurd i
  list_all-In p (z ∷ xs) h x (inl q) = ap p (sym q) ∙ (and_parts (p z) (list_all p xs) h).0
  list_all-In p (z ∷ xs) h x (inr i) = list_all-In p xs (and_parts (p z) (list_all p xs) h).1 x i

  pub In-list_all : (p : X → Bool) (xs : List X) → ((x : X) → In xs x → p x ≡ true) → list_all p xs ≡ true
  In-list_all p [] h = refl
  In-list_all p (z ∷ xs) h = and_from (p z) (list_all p xs) (h z (inl refl)) (In-list_all p xs (λ x i. h x (inr i)))

  pub list_any-In : (p : X → Bool) (xs : List X) → list_any p xs ≡ true → (x : X) × In xs x × (p x ≡ true)
  list_any-In p [] h = absurd (false≢true h)
  list_any-In p (z ∷ xs) h = ⊎_elim (λ t. (z, inl refl, t)) (λ t. (let r = list_any-In p xs t in (r.0, inr r.1, r.2))) (or_cases (p z) (list_any p xs) h)

  pub In-list_any : (p : X → Bool) (xs : List X) (x : X) → In xs x → p x ≡ true → list_any p xs ≡ true
  In-list_any p [] x i t = absurd i
  In-list_any p (z ∷ xs) x (inl q) t = or_left (p z) (list_any p xs) (ap p q ∙ t)
  In-list_any p (z ∷ xs) x (inr i) t = or_right (p z) (list_any p xs) (In-list_any p xs x i t)

  -- the list without one place of a member
  without : (xs : List X) (x : X) → In xs x → (zs : List X) × (length xs ≡ length zs + 1) × ((y : X) → In xs y → (x ≡ y) ⊎ In zs y)
  without [] x h = absurd h
  without (z ∷ xs) x (inl p) = (xs, omega arith, λ y. ⊎_elim (λ q. inl (sym p ∙ q)) (λ i. inr i))
  without (z ∷ xs) x (inr i) =
      let r = without xs x i in
      let size : length xs ≡ length r.0 + 1 = r.1 in
      (z ∷ r.0, omega arith, λ y. ⊎_elim (λ q. inr (inl q)) (λ j. ⊎_elim (λ s. inl s) (λ t. inr (inr t)) (r.2 y j)))

  In-split : (xs : List X) (x : X) → In xs x → (b : List X) × (c : List X) × (xs ≡ b ++ (x ∷ c))
  In-split [] x h = absurd h
  In-split (z ∷ xs) x (inl p) = ([], xs, ap (λ (y : X). y ∷ xs) p)
  In-split (z ∷ xs) x (inr i) = let r = In-split xs x i in (z ∷ r.0, r.1, ap (λ (ys : List X). z ∷ ys) r.2)

  -- one of them is this member, or all are others
  sweep : (e : X) (zs xs : List X) → ((x : X) → In xs x → (e ≡ x) ⊎ In zs x) → In xs e ⊎ ((x : X) → In xs x → In zs x)
  sweep e zs [] h = inr (λ x i. absurd i)
  sweep e zs (y ∷ ys) h =
      ⊎_elim (λ p. inl (inl (sym p)))
      (λ z. ⊎_elim (λ i. inl (inr i)) (λ all. inr (λ x. ⊎_elim (λ q. subst (λ (a : X). In zs a) q z) (all x))) (sweep e zs ys (λ x i. h x (inr i))))
      (h y (inl refl))

  -- some member is at two places
  abbrev pub Repeats : List X → Type 0
  Repeats xs = (a : List X) × (b : List X) × (c : List X) × (x : X) × (xs ≡ a ++ (x ∷ (b ++ (x ∷ c))))

  -- a list with more members than there are to choose from repeats one
  pub repeats_or_short : (xs es : List X) → ((x : X) → In es x → In xs x) → Repeats es ⊎ (length es ≤ length xs)
  repeats_or_short xs [] h = inr (omega arith)
  repeats_or_short xs (e ∷ es) h =
      let r = without xs e (h e (inl refl)) in
      let size : length xs ≡ length r.0 + 1 = r.1 in
      ⊎_elim
      (λ again. (let s = In-split es e again in inl ([], s.0, s.1, e, ap (λ (ys : List X). e ∷ ys) s.2)))
      (λ others. ⊎_elim
      (λ p. inl (e ∷ p.0, p.1, p.2, p.3, ap (λ (ys : List X). e ∷ ys) p.4))
      (λ short. inr (omega arith))
      (repeats_or_short r.0 es others))
      (sweep e r.0 es (λ x i. r.2 x (h x (inr i))))

pub In-map : {X Y : Type 0} (f : X → Y) (xs : List X) (x : X) → In xs x → In (map f xs) (f x)
In-map f [] x h = absurd h
In-map f (z ∷ xs) x (inl p) = inl (ap f p)
In-map f (z ∷ xs) x (inr i) = inr (In-map f xs x i)

pub map-In : {X Y : Type 0} (f : X → Y) (xs : List X) (y : Y) → In (map f xs) y → (x : X) × In xs x × (f x ≡ y)
map-In f [] y h = absurd h
map-In f (z ∷ xs) y (inl p) = (z, inl refl, p)
map-In f (z ∷ xs) y (inr i) = let r = map-In f xs y i in (r.0, inr r.1, r.2)

pub In-flat_map : {X Y : Type 0} (f : X → List Y) (xs : List X) (x : X) (y : Y) → In xs x → In (f x) y → In (flat_map f xs) y
In-flat_map f [] x y h k = absurd h
In-flat_map {X} f (z ∷ xs) x y (inl p) k = In-left (f z) (flat_map f xs) y (subst (λ (a : X). In (f a) y) (sym p) k)
In-flat_map f (z ∷ xs) x y (inr i) k = In-right (f z) (flat_map f xs) y (In-flat_map f xs x y i k)

pub flat_map-In : {X Y : Type 0} (f : X → List Y) (xs : List X) (y : Y) → In (flat_map f xs) y → (x : X) × In xs x × In (f x) y
flat_map-In f [] y h = absurd h
flat_map-In f (z ∷ xs) y h =
    ⊎_elim (λ i. (z, inl refl, i)) (λ j. (let r = flat_map-In f xs y j in (r.0, inr r.1, r.2))) (In-cases (f z) (flat_map f xs) y h)

module _ {X : Type 0} where
  pub In-lists_within : (n : ℕ) (xs es : List X) → length es ≤ n → ((x : X) → In es x → In xs x) → In (lists_within n xs) es
  unfolding lists_within
  In-lists_within zero xs [] h m = inl refl
  In-lists_within zero xs (e ∷ es) h m = absurd (omega arith)
  In-lists_within (suc n) xs [] h m = inl refl
  In-lists_within (suc n) xs (e ∷ es) h m =
      inr (In-flat_map (λ x. map (λ rest. x ∷ rest) (lists_within n xs)) xs e (e ∷ es) (m e (inl refl))
      (In-map (λ rest. e ∷ rest) (lists_within n xs) es (In-lists_within n xs es (omega arith) (λ x i. m x (inr i)))))

  pub lists_within-In : (n : ℕ) (xs es : List X) → In (lists_within n xs) es → (x : X) → In es x → In xs x
  unfolding lists_within
  lists_within-In zero xs es (inl p) x i = absurd (subst (λ (l : List X). In l x) (sym p) i)
  lists_within-In zero xs es (inr h) x i = absurd h
  lists_within-In (suc n) xs es (inl p) x i = absurd (subst (λ (l : List X). In l x) (sym p) i)
  lists_within-In (suc n) xs es (inr h) x i =
      let r = flat_map-In (λ y. map (λ rest. y ∷ rest) (lists_within n xs)) xs es h in
      let s = map-In (λ rest. r.0 ∷ rest) (lists_within n xs) es r.2 in
      ⊎_elim (λ q. subst (λ (a : X). In xs a) q r.1) (λ j. lists_within-In n xs s.0 s.1 x j) (subst (λ (l : List X). In l x) (sym s.2) i)

pub Some-same : {X : Type 0} {x y : X} → Some x ≡ Some y → x ≡ y
Some-same {X} {x} {y} p = ap (λ (o : Option X). unwrap_or o x) p

pub In-filter_map : {X Y : Type 0} (f : X → Option Y) (xs : List X) (x : X) (y : Y) → In xs x → f x ≡ Some y → In (filter_map f xs) y
In-filter_map f [] x y h is = absurd h
In-filter_map {X} {Y} f (z ∷ xs) x y (inl p) is = subst (λ (o : Option Y). In (cons_option o (filter_map f xs)) y) (sym (ap f p ∙ is)) (inl refl)
In-filter_map {X} {Y} f (z ∷ xs) x y (inr i) is = by_first (f z) (In-filter_map f xs x y i is)
  where
    by_first : (o : Option Y) → In (filter_map f xs) y → In (cons_option o (filter_map f xs)) y
    by_first None j = j
    by_first (Some w) j = inr j

pub filter_map-In : {X Y : Type 0} (f : X → Option Y) (xs : List X) (y : Y) → In (filter_map f xs) y → (x : X) × In xs x × (f x ≡ Some y)
filter_map-In f [] y h = absurd h
filter_map-In {X} {Y} f (z ∷ xs) y h = by_first (f z) refl h (filter_map-In f xs y)
  where
    by_first : (o : Option Y) → f z ≡ o → In (cons_option o (filter_map f xs)) y → (In (filter_map f xs) y → (x : X) × In xs x × (f x ≡ Some y))
        → (x : X) × In (z ∷ xs) x × (f x ≡ Some y)
    by_first None is i rest = (let r = rest i in (r.0, inr r.1, r.2))
    by_first (Some w) is (inl q) rest = (z, inl refl, is ∙ ap (λ (v : Y). Some v) q)
    by_first (Some w) is (inr i) rest = (let r = rest i in (r.0, inr r.1, r.2))

pub In-zip : {X Y : Type 0} (xs : List X) (ys : List Y) (i : ℕ) (x : X) (d : Y) → slice_get xs i ≡ Some x → i < length ys → In (zip xs ys) (x, get_or ys i d)
In-zip [] ys i x d at lt = absurd (cc)
In-zip (a ∷ xs) [] i x d at lt = absurd (omega arith)
In-zip {X} {Y} (a ∷ xs) (b ∷ ys) zero x d at lt = inl (ap (λ (v : X). let p : X × Y = (v, b) in p) (Some-same at))
In-zip (a ∷ xs) (b ∷ ys) (suc i) x d at lt = inr (In-zip xs ys i x d at (omega arith))

pub zip-In : {X Y : Type 0} (xs : List X) (ys : List Y) (p : X × Y) (d : Y) → In (zip xs ys) p → (i : ℕ) × (slice_get xs i ≡ Some p.0) × (get_or ys i d ≡ p.1)
zip-In [] ys p d h = absurd h
zip-In (a ∷ xs) [] p d h = absurd h
zip-In {X} {Y} (a ∷ xs) (b ∷ ys) p d (inl q) = (0, ap (λ (r : X × Y). Some r.0) q, ap (λ (r : X × Y). r.1) q)
zip-In (a ∷ xs) (b ∷ ys) p d (inr i) = let r = zip-In xs ys p d i in (suc r.0, r.1, r.2)

-- a list is a function of another, place by place
pub map-by_place : {X Y : Type 0} (f : X → Y) (xs : List X) (ys : List Y) (d : Y) → length ys ≡ length xs
    → ((i : ℕ) (x : X) → slice_get xs i ≡ Some x → get_or ys i d ≡ f x) → ys ≡ map f xs
map-by_place f [] [] d sized h = refl
map-by_place f [] (y ∷ ys) d sized h = absurd (omega arith)
map-by_place f (x ∷ xs) [] d sized h = absurd (omega arith)
map-by_place {X} {Y} f (x ∷ xs) (y ∷ ys) d sized h =
    ap (λ (v : Y). v ∷ ys) (h 0 x refl) ∙ ap (λ (vs : List Y). f x ∷ vs) (map-by_place f xs ys d (omega arith) (λ i z at. h (suc i) z at))
