-- The best ways of candidates in order of their keys: that of the candidates at the front, which are for one key, and
-- then those of the others.
use Rattle.std.proofs.Common.{◌≡◌, ℕ, suc, ◌+◌, ◌<◌, ◌≤◌, Bool, true, false, cond, List, [], ◌∷◌, ◌++◌, map, take, drop, length, get_or, Option, Some, None, IfSome}
use Rattle.std.proofs.Common.{refl, sym, ap, subst, ◌∙◌, arith}
use Rattle.std.specs.Prelude.{nat_lt, not, position}
use Rattle.std.specs.List.{All, AllByRecursion, filter, position_or_len, slice_get}
use Rattle.std.specs.List.Sorted.{IsSorted, IsStrictlySortedBy}
use Rattle.std.specs.Map.{keys_of}
use Rattle.std.specs.Cmp.{IsTotalOrder, Equal-is}
use Rattle.std.specs.Ordering.{eq_by_cmp, is_eq, is_lt, ordering_reverse}
use Rattle.std.specs.declared.cmp.Ordering.{Ordering}
use Rattle.std.specs.declared.cmp.Ordering.TheVariants.{Less, Equal, Greater}
use Rattle.std.proofs.lemmas.Bool.{ltb-false}
use Rattle.std.proofs.lemmas.List.{append-nil, drop-drop, drop_all, drop_more, get_or-take, length-take, take-append-drop, take_all}
use Rattle.std.proofs.lemmas.List.Elements.{filter-append, recursion_from_All}
use Rattle.std.proofs.lemmas.List.Quantifiers.{position-Some}
use Rattle.std.proofs.lemmas.List.Sorted.{ranks_by, sorted_far}
use Rattle.std.proofs.lemmas.List.Sums.{fails_before_first}
use Rattle.std.proofs.lemmas.Map.Lookups.{CmpEqualImpliesEq}
use Rattle.best_ways.specs.Best.{way_of, way_to, ways_of}
use Rattle.best_ways.specs.Candidate.{Candidate}
use Rattle.best_ways.specs.Values.{WayValue}
use Rattle.best_ways.specs.steps.Merge.{key_cmp}
use Rattle.best_ways.proofs.LeastLemmas.{lt_le}
use Rattle.best_ways.proofs.LookupLemmas.{all_entries}
use Rattle.best_ways.proofs.Merging.{HasWays, all_ways, lookup_ways, sorted_ways}
use Rattle.best_ways.proofs.RisingLemmas.{all_rising}

module _ {X : Type 0} where
  all_weaker : (P Q : X → Type 0) → ((x : X) → P x → Q x) → (xs : List X) → AllByRecursion P xs → AllByRecursion Q xs
  all_weaker P Q h [] a = tt
  all_weaker P Q h (x ∷ xs) a = (h x a.0, all_weaker P Q h xs a.1)

  all_after : (P : X → Type 0) (xs ys : List X) → AllByRecursion P (xs ++ ys) → AllByRecursion P ys
  all_after P [] ys a = a
  all_after P (x ∷ xs) ys a = all_after P xs ys a.1

  all_pass : (t : X → Bool) (xs : List X) → AllByRecursion (λ x. t x ≡ true) xs → filter t xs ≡ xs
  all_pass t [] a = refl
  all_pass t (x ∷ xs) a = ap (λ b. cond b (x ∷ filter t xs) (filter t xs)) a.0 ∙ ap (λ l. x ∷ l) (all_pass t xs a.1)

  none_pass : (t : X → Bool) (xs : List X) → AllByRecursion (λ x. t x ≡ false) xs → filter t xs ≡ []
  none_pass t [] a = refl
  none_pass t (x ∷ xs) a = ap (λ b. cond b (x ∷ filter t xs) (filter t xs)) a.0 ∙ none_pass t xs a.1

-- ---- candidates in order of their keys

module _ {K : Type 0} (R : K → K → Ordering) where
  -- no candidate comes before an earlier one
  abbrev pub Climbs : List (Candidate K) → Type 0
  Climbs [] = Unit {0}
  Climbs (c ∷ cs) = AllByRecursion (λ d. is_lt (R d.key c.key) ≡ false) cs × Climbs cs

  climbs_after : (xs ys : List (Candidate K)) → Climbs (xs ++ ys) → Climbs ys
  climbs_after [] ys up = up
  climbs_after (x ∷ xs) ys up = climbs_after xs ys up.1

  -- a candidate for the key, and for another one
  abbrev pub IsFor : K → Candidate K → Type 0
  IsFor k c = eq_by_cmp R k c.key ≡ true

  abbrev pub IsForAnother : K → Candidate K → Type 0
  IsForAnother k c = eq_by_cmp R k c.key ≡ false

less_from : (r : Ordering) → is_eq r ≡ false → is_lt (ordering_reverse r) ≡ false → r ≡ Less
less_from Less e l = refl
less_from Equal e l = cc
less_from Greater e l = cc

module _ {K : Type 0} {R : K → K → Ordering} (o : IsTotalOrder R) where
  pub climbs : (cs : List (Candidate K)) → IsSorted (key_cmp R) cs → Climbs R cs
  climbs [] up = tt
  climbs (c ∷ cs) up = (
    recursion_from_All (λ d. is_lt (R d.key c.key) ≡ false) cs
        (λ k d l. sorted_far (λ a b. is_lt (key_cmp R a b)) (ranks_by o (λ a. a.key)) (c ∷ cs) up 0 (suc k) d (omega arith) (omega arith)),
    climbs cs
        (λ k d low below.
        let next : suc k + 1 ≡ suc (k + 1) = omega arith in
        let P : ℕ → Type 0 = λ n. is_lt (R (get_or (c ∷ cs) n d).key (get_or cs k d).key) ≡ false in
        subst P next (up (suc k) d (omega arith) (omega arith))),
  )

  later : (k : K) (c : Candidate K) (cs : List (Candidate K)) → R k c.key ≡ Less
      → AllByRecursion (λ d. is_lt (R d.key c.key) ≡ false) cs → AllByRecursion (λ d. R k d.key ≡ Less) cs
  later k c cs less a = all_weaker (λ d. is_lt (R d.key c.key) ≡ false) (λ d. R k d.key ≡ Less) (λ d above. lt_le o k c.key d.key less above) cs a

  -- where the first of the candidates is for another key, all are for later ones
  all_later : (k : K) (cs : List (Candidate K)) → Climbs R cs → AllByRecursion (λ d. is_lt (R d.key k) ≡ false) cs
      → IfSome (slice_get cs 0) (IsForAnother R k) → AllByRecursion (λ d. R k d.key ≡ Less) cs
  all_later k [] up above other = tt
  all_later k (c ∷ cs) up above other =
      let less : R k c.key ≡ Less = less_from (R k c.key) other (sym (ap is_lt (o.antisymm c.key k)) ∙ above.0) in
      (less, later k c cs less up.0)

module _ {K : Type 0} {R : K → K → Ordering} (o : IsTotalOrder R) (exact : CmpEqualImpliesEq R) where
  module _ (x : Candidate K) (alike others : List (Candidate K)) (same : AllByRecursion (IsFor R x.key) alike)
      (after : AllByRecursion (λ c. R x.key c.key ≡ Less) others) (w : WayValue) (is : Some w ≡ way_of (x ∷ alike)) where
    at_key : (q : K) (b : Bool) → eq_by_cmp R q x.key ≡ b
        → cond b (Some w) (way_to R others q)
        ≡ way_of (cond b (x ∷ filter (λ c. eq_by_cmp R q c.key) (alike ++ others)) (filter (λ c. eq_by_cmp R q c.key) (alike ++ others)))
    at_key q true e =
        let t : Candidate K → Bool = λ c. eq_by_cmp R q c.key in
        let key : x.key ≡ q = sym (exact q x.key ((Equal-is (R q x.key)).0 e)) in
        let own : filter t alike ≡ alike =
        all_pass t alike (all_weaker (IsFor R x.key) (IsFor R q) (λ c h. ap (λ (k : K). eq_by_cmp R k c.key) (sym key) ∙ h) alike same) in
        let none : filter t others ≡ [] =
        none_pass t others
        (all_weaker (λ c. R x.key c.key ≡ Less) (IsForAnother R q) (λ c h. ap (λ (k : K). eq_by_cmp R k c.key) (sym key) ∙ ap is_eq h) others after) in
        is ∙ ap (λ (cs : List (Candidate K)). way_of (x ∷ cs))
        (sym (filter-append t alike others ∙ ap (λ l. l ++ filter t others) own ∙ ap (λ l. alike ++ l) none ∙ append-nil alike))
    at_key q false e =
        let t : Candidate K → Bool = λ c. eq_by_cmp R q c.key in
        let none : filter t alike ≡ [] =
        none_pass t alike
        (all_weaker (IsFor R x.key) (IsForAnother R q)
        (λ c h. ap (eq_by_cmp R q) (sym (exact x.key c.key ((Equal-is (R x.key c.key)).0 h))) ∙ e) alike same) in
        ap (λ (cs : List (Candidate K)). way_of cs) (sym (filter-append t alike others ∙ ap (λ l. l ++ filter t others) none))

    has_ways : HasWays R (x ∷ (alike ++ others)) ((x.key, w) ∷ ways_of R others)
    has_ways q = ap (λ v. cond (eq_by_cmp R q x.key) (Some w) v) (lookup_ways o exact others q) ∙ at_key q (eq_by_cmp R q x.key) refl

    keys_later : (cs : List (Candidate K)) → AllByRecursion (λ c. R x.key c.key ≡ Less) cs → AllByRecursion (λ k. R x.key k ≡ Less) (map (λ c. c.key) cs)
    keys_later [] a = tt
    keys_later (c ∷ cs) a = (a.0, keys_later cs a.1)

    rises : IsStrictlySortedBy R (keys_of ((x.key, w) ∷ ways_of R others))
    unfolding IsStrictlySortedBy
    rises = (
      all_entries R (λ k. R x.key k ≡ Less) (way_to R others) _ (all_rising o (λ k. R x.key k ≡ Less) (map (λ c. c.key) others) (keys_later others after)),
      sorted_ways o exact others,
    )

    front_ways : ways_of R (x ∷ (alike ++ others)) ≡ (x.key, w) ∷ ways_of R others
    front_ways = sym (all_ways o exact ((x.key, w) ∷ ways_of R others) (x ∷ (alike ++ others)) rises has_ways)

  -- the candidates from a place on: n after the first are for the same key
  pub next_ways : (cs : List (Candidate K)) (place n : ℕ) (x : Candidate K) → place < length cs → x ≡ get_or cs place x → IsSorted (key_cmp R) cs
      → All (IsFor R x.key) (take n (drop (place + 1) cs)) → IfSome (slice_get (drop n (drop (place + 1) cs)) 0) (IsForAnother R x.key)
      → (w : WayValue) → Some w ≡ way_of (x ∷ take n (drop (place + 1) cs))
      → ways_of R (drop place cs) ≡ (x.key, w) ∷ ways_of R (drop (place + 1 + n) cs)
  next_ways cs place n x within at up same other w is =
      let others = drop (place + 1) cs in
      let alike = take n others in
      let left = drop n others in
      let rest : drop place cs ≡ x ∷ (alike ++ left) =
      drop_more cs place x within ∙ ap (λ y. y ∷ others) (sym at) ∙ ap (λ l. x ∷ l) (sym (take-append-drop n others)) in
      let here : Climbs R (x ∷ (alike ++ left)) =
      subst (Climbs R) rest (climbs_after R (take place cs) (drop place cs) (subst (Climbs R) (sym (take-append-drop place cs)) (climbs o cs up))) in
      let on : Climbs R left = climbs_after R alike left here.1 in
      let later_ones = all_later o x.key left on (all_after (λ d. is_lt (R d.key x.key) ≡ false) alike left here.0) other in
      ap (ways_of R) rest ∙ front_ways x alike left (recursion_from_All (IsFor R x.key) alike same) later_ones w is
      ∙ ap (λ l. (x.key, w) ∷ ways_of R l) (drop-drop n (place + 1) cs)

-- the ways of the last candidates are all ways that are left
pub no_more : {K : Type 0} (R : K → K → Ordering) (cs : List (Candidate K)) (place : ℕ) → length cs ≤ place → ways_of R (drop place cs) ≡ []
no_more R cs place past = ap (ways_of R) (drop_all place cs past)

-- ---- the candidates at the front

not_not : (b : Bool) → not b ≡ false → b ≡ true
not_not true h = refl
not_not false h = cc

not_true : (b : Bool) → not b ≡ true → b ≡ false
not_true true h = cc
not_true false h = refl

none_found : {X : Type 0} (p : X → Bool) (xs : List X) → position p xs ≡ None → (k : ℕ) (d : X) → k < length xs → p (get_or xs k d) ≡ false
none_found p xs none k d below = by (nat_lt (position_or_len p xs) (length xs)) refl none
  where
    by : (b : Bool) → nat_lt (position_or_len p xs) (length xs) ≡ b → cond b (Some (position_or_len p xs)) None ≡ None → p (get_or xs k d) ≡ false
    by true e h = cc
    by false e h = (let past = ltb-false (position_or_len p xs) (length xs) e in fails_before_first p xs k d (omega (arith, below, past)))

module _ {X : Type 0} (t : X → Bool) (n : ℕ) where
  pub front_passes : (xs : List X) → position (λ x. not (t x)) xs ≡ Some n → All (λ x. t x ≡ true) (take n xs)
  front_passes xs at k d below =
      let first = position-Some (λ x. not (t x)) xs n d at in
      let within : k < n = omega (arith, below, length-take n xs) in
      let P : X → Type 0 = λ x. t x ≡ true in
      subst P (sym (get_or-take n xs k d within)) (not_not (t (get_or xs k d)) (first.2 k within))

  pub next_fails : (xs : List X) → position (λ x. not (t x)) xs ≡ Some n → IfSome (slice_get (drop n xs) 0) (λ x. t x ≡ false)
  next_fails [] at = cc
  next_fails (y ∷ ys) at =
      let first = position-Some (λ x. not (t x)) (y ∷ ys) n y at in
      let P : List X → Type 0 = λ l. IfSome (slice_get l 0) (λ x. t x ≡ false) in
      subst P (sym (drop_more (y ∷ ys) n y first.0)) (not_true (t (get_or (y ∷ ys) n y)) first.1)

  -- where all pass
  pub all_taken : (xs : List X) → position (λ x. not (t x)) xs ≡ None → n ≡ length xs → All (λ x. t x ≡ true) (take n xs)
  all_taken xs none size =
      let P : List X → Type 0 = λ l. All (λ x. t x ≡ true) l in
      subst P (sym (take_all n xs (omega (arith, size))))
      (λ k d below. not_not (t (get_or xs k d)) (none_found (λ x. not (t x)) xs none k d below))

  pub none_after : (xs : List X) → n ≡ length xs → IfSome (slice_get (drop n xs) 0) (λ x. t x ≡ false)
  none_after xs size =
      let P : List X → Type 0 = λ l. IfSome (slice_get l 0) (λ x. t x ≡ false) in
      subst P (sym (drop_all n xs (omega (arith, size)))) tt
