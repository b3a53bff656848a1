-- Which of sorted observations are left, and which of the same observations in any order.
use Rattle.std.proofs.Common.{◌≡◌, ℕ, zero, suc, ◌+◌, ◌<◌, ◌≤◌, ◌⊎◌, refl, sym, ◌∙◌, ap, subst, inl, inr, List, []}
use Rattle.std.proofs.Common.{◌∷◌, ◌++◌, length, length-take, get_or, map, take, Bool, true, false, not, Option, Some, if◌then◌else◌, arith}
use Rattle.std.specs.Prelude.{All, Contains, IsPermutation}
use Rattle.std.specs.List.{cons_option, filter, filter_map, zip}
use Rattle.std.specs.List.Sorted.{IsSorted}
use Rattle.std.specs.Ordering.{is_eq, is_gt, is_lt, ordering_reverse, ordering_then}
use Rattle.std.specs.declared.cmp.Ordering.{Ordering}
use Rattle.std.specs.declared.cmp.Ordering.TheVariants.{Less, Equal, Greater}
use Rattle.std.proofs.lemmas.Bool.{and_parts, both_ways}
use Rattle.std.proofs.lemmas.List.{get_or-take, get_or_default, map-append, take_more}
use Rattle.std.proofs.lemmas.List.Elements.{All-contains, All-contains_itself, All-weaker, filter_passes}
use Rattle.std.proofs.lemmas.List.Folds.{Any-from_list_any, list_any-from_Any}
use Rattle.std.proofs.lemmas.List.Sorted.{ranks_by, sorted_far}
use Rattle.lsa_instances.specs.declared.observation.Observation.{Observation}
use Rattle.lsa_instances.specs.Instance.{instance_id_cmp, instance_id_of}
use Rattle.lsa_instances.specs.Newest.{AreSame, began_after}
use Rattle.lsa_instances.specs.Order.{place_cmp, place_of}
use Rattle.lsa_instances.proofs.SameLemmas.{any_same, same_in_order}
use Rattle.forgotten_instances.specs.declared.past.Past.{Past}
use Rattle.forgotten_instances.specs.Forgotten.{forgets, is_forgotten, is_older, remembered}
use Rattle.forgotten_instances.specs.steps.Walking.{age_cmp, is_forgotten_by, left_of, past_with}
use Rattle.forgotten_instances.proofs.Walked.{After, Keeps, age_total, eq_true, keeps}

-- ---- the loop

back : (r s : Ordering) → r ≡ ordering_reverse s → is_lt s ≡ false → is_gt r ≡ false
back r Less e h = cc
back r Equal e h = ap is_gt e
back r Greater e h = ap is_gt e

then_less : (r s : Ordering) → r ≡ Equal → is_lt s ≡ true → is_lt (ordering_then r s) ≡ true
then_less r s e h = rw e h

split : (k i : ℕ) → (k < i) ⊎ (i ≤ k)
split k i = grind arith

both : (a b : Bool) → (a ≡ true → b ≡ true) → (b ≡ true → a ≡ true) → a ≡ b
both true true f g = refl
both true false f g = sym (f refl)
both false true f g = g refl
both false false f g = refl

module _ {A : Type 0} where
  older_before : (z x : Observation A) → is_older z x ≡ true → is_lt (age_cmp z x) ≡ true
  older_before z x h =
      let t = and_parts (is_eq (place_cmp (place_of z) (place_of x))) (is_lt (instance_id_cmp (instance_id_of z.lsa) (instance_id_of x.lsa))) h in
      then_less (place_cmp (place_of z) (place_of x)) (instance_id_cmp (instance_id_of z.lsa) (instance_id_of x.lsa)) (eq_true _ t.0) t.1

  module _ (all : List (Observation A)) (up : IsSorted age_cmp all) where
    far : (k i : ℕ) (y : Observation A) → k ≤ i → i < length all → is_lt (age_cmp (get_or all i y) (get_or all k y)) ≡ false
    far k i y l m = sorted_far (λ a b. is_lt (age_cmp a b)) (ranks_by age_total (λ a. a)) all up k i y l m

    pub after : (i : ℕ) (d : Observation A) → i < length all → After (take i all) (get_or all i d)
    after i d l = record {
      at = λ y c.
          let k = c.0 in
          let below : k < i = omega (arith, c.1, length-take i all) in
          let same : get_or all k y ≡ y = sym (get_or-take i all k y below) ∙ c.2 in
          let P : Observation A → Type 0 = λ z. is_gt (age_cmp z (get_or all i d)) ≡ false in
          let Q : Observation A → Type 0 = λ z. is_gt (age_cmp (get_or all k y) z) ≡ false in
          subst P same (subst Q (get_or_default all i y d l) (back _ _ (age_total.antisymm (get_or all k y) (get_or all i y)) (far k i y (omega (arith, below)) l)));
    }

    -- an observation that is of an older instance than x stands before x
    before_it : (i k : ℕ) (x z : Observation A) → i < length all → x ≡ get_or all i x → k < length all → get_or all k z ≡ z
        → is_older z x ≡ true → k < i
    before_it i k x z m e l at h =
        elim (split k i) as (λ _. k < i) [
          | inl b ↦ b
          | inr b ↦
              let x_is : get_or all i z ≡ x = get_or_default all i z x m ∙ sym e in
              let apart : is_lt (age_cmp z x) ≡ false = (λ j. is_lt (age_cmp (sym at j) (sym x_is j))) ∙ far i k z b l in
              absurd (both_ways (is_lt (age_cmp z x)) apart (older_before z x h))
        ]

    -- those from x on forget nothing of x
    pub whole : (i : ℕ) (x : Observation A) → i < length all → x ≡ get_or all i x → is_forgotten (take i all) x ≡ is_forgotten all x
    whole i x m e = both (is_forgotten (take i all) x) (is_forgotten all x)
        (λ h.
        let a = Any-from_list_any (λ y. forgets y x) (take i all) h in
        let below : a.0 < i = omega (arith, a.2, length-take i all) in
        let here : a.0 < length all = omega (arith, below, m) in
        list_any-from_Any (λ y. forgets y x) all (a.0, a.1, here, sym (get_or-take i all a.0 a.1 below) ∙ a.3, a.4))
        (λ h.
        let a = Any-from_list_any (λ y. forgets y x) all h in
        let older = (and_parts (is_older a.1 x) (began_after x.seen a.1) a.4).0 in
        let below : a.0 < i = before_it i a.0 x a.1 m e a.2 a.3 older in
        let here : a.0 < length (take i all) = omega (arith, below, m, length-take i all) in
        list_any-from_Any (λ y. forgets y x) (take i all) (a.0, a.1, here, get_or-take i all a.0 a.1 below ∙ a.3, a.4))

    -- one more of them
    pub one_more : (i : ℕ) (x : Observation A) (past : Option Past) (bits : List Bool) → i < length all → x ≡ get_or all i x
        → Keeps (take i all) past → bits ≡ map (is_forgotten all) (take i all)
        → Keeps (take (i + 1) all) (Some (past_with past x)) × (bits ++ is_forgotten_by past x ∷ [] ≡ map (is_forgotten all) (take (i + 1) all))
    one_more i x past bits l e k same =
        let p : List (Observation A) = take i all in
        let b : After p x = let P : Observation A → Type 0 = λ z. After p z in subst P (sym e) (after i x l) in
        let more : take (i + 1) all ≡ p ++ x ∷ [] = take_more all i x l ∙ ap (λ (z : Observation A). p ++ z ∷ []) (sym e) in
        let bit : is_forgotten_by past x ≡ is_forgotten all x = k.known x b x.seen ∙ whole i x l e in
        let bits_are : bits ++ is_forgotten_by past x ∷ [] ≡ map (is_forgotten all) (p ++ x ∷ []) =
        (λ j. same j ++ bit j ∷ []) ∙ sym (map-append (is_forgotten all) p (x ∷ [])) in
        rw more (keeps p x b past k, bits_are)

-- ---- what is left

module _ {A : Type 0} where
  one_left : (x : Observation A) (b : Bool) (more others : List (Observation A)) → more ≡ others
      → cons_option (left_of (x, b)) more ≡ (if not b then x ∷ others else others)
  one_left x true more others h = h
  one_left x false more others h = ap (λ rest. x ∷ rest) h

  pub left_by : (f : Observation A → Bool) (xs : List (Observation A)) → filter_map left_of (zip xs (map f xs)) ≡ filter (λ x. not (f x)) xs
  left_by f [] = refl
  left_by f (x ∷ xs) = one_left x (f x) (filter_map left_of (zip xs (map f xs))) (filter (λ y. not (f y)) xs) (left_by f xs)

-- ---- the same observations

-- one item of a longer list
pub contains_cons : {X : Type 0} (y : X) (ys : List X) (k : ℕ) (x : X) → k < length (y ∷ ys) → get_or (y ∷ ys) k x ≡ x → (y ≡ x) ⊎ Contains ys x
contains_cons y ys zero x l e = inl e
contains_cons y ys (suc k) x l e = inr (k, omega arith, e)

later_one : {X : Type 0} (y : X) (ys : List X) (x : X) → Contains ys x → Contains (y ∷ ys) x
later_one y ys x c = (suc c.0, omega (arith, c.1), c.2)

module _ {X : Type 0} (p : X → Bool) where
  kept_one : (y x : X) (b : Bool) (ys zs : List X) → p y ≡ b → p x ≡ true → (y ≡ x) ⊎ Contains zs x → Contains (if b then y ∷ zs else zs) x
  kept_one y x true ys zs e h (inl same) = (0, omega arith, same)
  kept_one y x true ys zs e h (inr c) = later_one y zs x c
  kept_one y x false ys zs e h (inl same) = absurd (both_ways (p y) e (ap p same ∙ h))
  kept_one y x false ys zs e h (inr c) = c

  pub kept : (xs : List X) (x : X) → Contains xs x → p x ≡ true → Contains (filter p xs) x
  kept [] x c h = absurd (omega (arith, c.1))
  kept (y ∷ ys) x c h =
      kept_one y x (p y) ys (filter p ys) refl h (elim (contains_cons y ys c.0 x c.1 c.2) as (λ _. (y ≡ x) ⊎ Contains (filter p ys) x) [
        | inl same ↦ inl same
        | inr d ↦ inr (kept ys x d h)
      ])

  was_one : (y x : X) (b : Bool) (ys zs : List X) → (Contains zs x → Contains ys x) → Contains (if b then y ∷ zs else zs) x → Contains (y ∷ ys) x
  was_one y x true ys zs rest d = elim (contains_cons y zs d.0 x d.1 d.2) as (λ _. Contains (y ∷ ys) x) [
    | inl same ↦ (0, omega arith, same)
    | inr e ↦ later_one y ys x (rest e)
  ]
  was_one y x false ys zs rest d = later_one y ys x (rest d)

  was_there : (xs : List X) (x : X) → Contains (filter p xs) x → Contains xs x
  was_there [] x c = c
  was_there (y ∷ ys) x c = was_one y x (p y) ys (filter p ys) (was_there ys x) c

  pub is_kept : (xs : List X) → All (λ x. Contains xs x × (p x ≡ true)) (filter p xs)
  is_kept xs = All-weaker (Contains (filter p xs)) (λ x. Contains xs x × (p x ≡ true))
      (λ x c. (was_there xs x c, All-contains (λ y. p y ≡ true) (filter p xs) x (filter_passes p xs) c)) (filter p xs) (All-contains_itself (filter p xs))

module _ {X : Type 0} (p : X → Bool) (xs ys : List X) where
  within : All (Contains ys) xs → All (Contains (filter p ys)) (filter p xs)
  within h = All-weaker (λ x. Contains xs x × (p x ≡ true)) (Contains (filter p ys))
      (λ x k. kept p ys x (All-contains (Contains ys) xs x h k.0) k.1) (filter p xs) (is_kept p xs)

pub same_filter : {X : Type 0} (p : X → Bool) (xs ys : List X) → AreSame xs ys → AreSame (filter p xs) (filter p ys)
same_filter p xs ys h = (within p xs ys h.0, within p ys xs h.1)

module _ {A : Type 0} where
  alike : (reported other : List (Observation A)) → AreSame reported other → (x : Observation A) → is_forgotten reported x ≡ is_forgotten other x
  alike reported other h x = any_same (λ y. forgets y x) reported other h

  pub same_remembered : (reported other : List (Observation A)) → AreSame reported other → AreSame (remembered reported) (remembered other)
  same_remembered reported other h =
      let P : List (Observation A) → Type 0 = λ xs. AreSame (remembered reported) xs in
      let e : filter (λ x. not (is_forgotten reported x)) other ≡ remembered other = λ i. filter (λ x. not (alike reported other h x i)) other in
      subst P e (same_filter (λ x. not (is_forgotten reported x)) reported other h)

  pub left_same : (reported sorted left : List (Observation A)) (bits : List Bool) → IsPermutation reported sorted
      → bits ≡ map (is_forgotten sorted) sorted → left ≡ filter_map left_of (zip sorted bits) → AreSame (remembered reported) left
  left_same reported sorted left bits permuted same h =
      let P : List (Observation A) → Type 0 = λ xs. AreSame (remembered reported) xs in
      let e : left ≡ remembered sorted = h ∙ ap (λ b. filter_map left_of (zip sorted b)) same ∙ left_by (is_forgotten sorted) sorted in
      subst P (sym e) (same_remembered reported sorted (same_in_order reported sorted permuted))
