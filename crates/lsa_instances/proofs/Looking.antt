-- Looking through sorted observations: the newest of those that were looked at are known, and their flushes.
use Rattle.std.proofs.Common.{◌≡◌, ℕ, ◌-◌, ◌<◌, ◌⊎◌, refl, sym, ◌∙◌, ap, inl, inr, List, [], ◌∷◌, ◌++◌, length, get_or, take, subst, true, false, not}
use Rattle.std.proofs.Common.{◌||◌, Some, arith}
use Rattle.std.specs.Prelude.{All, AllPairs, Contains, slice_get}
use Rattle.std.specs.List.{Any}
use Rattle.std.specs.Ordering.{bool_cmp, is_eq, is_gt, ordering_then}
use Rattle.std.specs.declared.cmp.Ordering.TheVariants.{Less}
use Rattle.std.proofs.lemmas.Bool.{cases_Bool, and_parts, both_ways, false_from_ne_true, not-true, or_from}
use Rattle.std.proofs.lemmas.Cmp.{tied_itself}
use Rattle.std.proofs.lemmas.List.{get_or-take, get_or_default, length-take}
use Rattle.std.proofs.lemmas.List.Elements.{All-contains, All-get_or, All-nil, All-push, Contains-append_left, Contains-get_or, Contains-push}
use Rattle.std.proofs.lemmas.List.Folds.{Any-from_list_any, list_any-from_Any}
use Rattle.std.proofs.lemmas.List.Quantifiers.{Any-push, all_pairs_push}
use Rattle.std.proofs.lemmas.Option.{slice_get-get_or, slice_get_cases}
use Rattle.lsa_codec.specs.Key.{is_at_max_age}
use Rattle.lsa_instances.specs.declared.keeping.FlushedLsas.{FlushedLsas}
use Rattle.lsa_instances.specs.declared.keeping.FlushedLsas.TheVariants.{Kept, LeftOut}
use Rattle.lsa_instances.specs.declared.observation.Observation.{Observation}
use Rattle.lsa_instances.specs.Instance.{instance_cmp}
use Rattle.lsa_instances.specs.Order.{place_cmp, place_of}
use Rattle.lsa_instances.specs.steps.ObservationOrder.{observation_cmp}
use Rattle.lsa_instances.specs.Newest.{AreNewest, IsCovered, IsNewest, IsNoNewer, flushes, is_flushed, is_left_out, standing_cmp}
use Rattle.lsa_instances.specs.steps.Flushing.{is_of, is_last}
use Rattle.lsa_instances.proofs.OrderLemmas.{instance_exact, instance_total, place_exact}
use Rattle.lsa_instances.proofs.Comparing.{eq_true, less_from, tie, equal_places, any_of, any_append, no_earlier, flushed_later, lasting_first, both_flushed, split_last, never_less, above_less, later_place, later_instance, flushes_itself, lasting_is_live, grown, After}

module _ {A : Type 0} where
  -- what stands before a flush and was not flushed is newer than the flush
  outlives : (p : List (Observation A)) (x y : Observation A) → is_gt (observation_cmp y x) ≡ false → Contains p y
      → is_flushed p y ≡ false → flushes x y ≡ false
  outlives p x y b c f = false_from_ne_true _ (λ t.
      let a = and_parts (is_at_max_age x.lsa) _ t in
      let d = and_parts (is_eq (place_cmp (place_of x) (place_of y))) _ a.1 in
      let g = and_parts (not (is_gt (instance_cmp y.lsa x.lsa))) _ d.1 in
      let e : place_of x ≡ place_of y = place_exact (place_of x) (place_of y) (eq_true _ d.0) in
      let back = later_instance y x b (sym e) in
      let same : y.lsa ≡ x.lsa = instance_exact y.lsa x.lsa (tie _ _ (instance_total.antisymm y.lsa x.lsa) (not-true _ g.0) back) in
      both_ways (is_at_max_age y.lsa) (lasting_is_live p y c f) (ap is_at_max_age same ∙ a.0))

  -- ---- what stands of a flushed LSA

  pub max_age_flushed : (p : List (Observation A)) (y : Observation A) → Contains p y → is_at_max_age y.lsa ≡ true → is_flushed p y ≡ true
  max_age_flushed p y c m = list_any-from_Any (λ g. flushes g y) p (any_of (λ g. flushes g y ≡ true) p y c (flushes_itself y m))

  pub at_max_age : (p : List (Observation A)) (x : Observation A) → IsNewest Kept p x → is_flushed p x ≡ true → is_at_max_age x.lsa ≡ true
  at_max_age p x n t =
      let s = Any-from_list_any (λ f. flushes f x) p t in
      let f = s.1 in
      let c : Contains p f = (s.0, s.2, s.3) in
      let a = and_parts (is_at_max_age f.lsa) _ s.4 in
      let d = and_parts (is_eq (place_cmp (place_of f) (place_of x))) _ a.1 in
      let g = and_parts (not (is_gt (instance_cmp x.lsa f.lsa))) _ d.1 in
      let e : place_of f ≡ place_of x = place_exact (place_of f) (place_of x) (eq_true _ d.0) in
      let k = All-contains (IsNoNewer Kept p x) p f n.unsurpassed c e refl in
      let h : is_gt (instance_cmp f.lsa x.lsa) ≡ false = both_flushed (is_flushed p x) (is_flushed p f) _ t (max_age_flushed p f c a.0) k in
      let same : x.lsa ≡ f.lsa = instance_exact x.lsa f.lsa (tie _ _ (instance_total.antisymm x.lsa f.lsa) (not-true _ g.0) h) in
      ap is_at_max_age same ∙ a.0

  pub stands_live : (flushed : FlushedLsas) (p : List (Observation A)) (x : Observation A) → IsNewest flushed p x → is_at_max_age x.lsa ≡ false
      → is_flushed p x ≡ false
  stands_live LeftOut p x n m = n.lasting
  stands_live Kept p x n m = false_from_ne_true _ (λ t. both_ways (is_at_max_age x.lsa) m (at_max_age p x n t))

  pub not_left_out : (flushed : FlushedLsas) (p : List (Observation A)) (x : Observation A) → is_flushed p x ≡ false → is_left_out flushed p x ≡ false
  not_left_out LeftOut p x f = f
  not_left_out Kept p x f = refl

  -- ---- one more observation

  module _ (flushed : FlushedLsas) (p : List (Observation A)) (x : Observation A) (b : After p x) where
    steady : (y : Observation A) → Contains p y → is_flushed (p ++ x ∷ []) y ≡ is_flushed p y
    steady y c = elim (cases_Bool (is_flushed p y)) as (λ _. is_flushed (p ++ x ∷ []) y ≡ is_flushed p y) [
      | inl t ↦ grown p x y ∙ (ap (λ v. v || flushes x y) t ∙ sym t)
      | inr f ↦ (grown p x y ∙ or_from _ _ f (outlives p x y (b.at y c) c f)) ∙ sym f
    ]

    stays : (k : FlushedLsas) (y : Observation A) → Contains p y → is_left_out k (p ++ x ∷ []) y ≡ is_left_out k p y
    stays LeftOut y c = steady y c
    stays Kept y c = refl

    same_standing : (y z : Observation A) → Contains p y → Contains p z → standing_cmp (p ++ x ∷ []) y z ≡ standing_cmp p y z
    same_standing y z c d =
        ap (λ v. ordering_then (bool_cmp v (is_flushed (p ++ x ∷ []) y)) (instance_cmp y.lsa z.lsa)) (steady z d)
        ∙ ap (λ v. ordering_then (bool_cmp (is_flushed p z) v) (instance_cmp y.lsa z.lsa)) (steady y c)

    -- x does not stand before z
    abbrev pub IsAfter : Observation A → Type 0
    IsAfter z = place_of x ≡ place_of z → (is_flushed (p ++ x ∷ []) x ≡ true) ⊎ (is_flushed (p ++ x ∷ []) z ≡ false)

    pub after_live : (z : Observation A) → Contains p z → is_flushed p z ≡ false → IsAfter z
    after_live z c f e = inr (steady z c ∙ f)

    itself_no_earlier : is_gt (standing_cmp (p ++ x ∷ []) x x) ≡ false
    itself_no_earlier =
        no_earlier (is_flushed (p ++ x ∷ []) x) (is_flushed (p ++ x ∷ []) x) _ (cases_Bool (is_flushed (p ++ x ∷ []) x))
        (ap is_gt (tied_itself instance_total x.lsa))

    carried : (z : Observation A) → IsAfter z → IsNewest flushed p z → IsNewest flushed (p ++ x ∷ []) z
    carried z h n = record {
      among_reported = Contains-append_left p (x ∷ []) z n.among_reported;
      lasting = stays flushed z n.among_reported ∙ n.lasting;
      unsurpassed = All-push (IsNoNewer flushed (p ++ x ∷ []) z) p x
          (λ k d l e f.
          let y = get_or p k d in
          let c = Contains-get_or p k d l in
          ap is_gt (same_standing y z c n.among_reported) ∙ n.unsurpassed k d l e (sym (stays flushed y c) ∙ f))
          (λ e f. no_earlier (is_flushed (p ++ x ∷ []) z) (is_flushed (p ++ x ∷ []) x) _ (h e) (later_instance z x (b.at z n.among_reported) (sym e)));
    }

    covered_by : (newest : List (Observation A)) → AreNewest flushed p newest → (k : ℕ) (d : Observation A) → k < length p
        → is_left_out flushed (p ++ x ∷ []) (get_or p k d) ≡ false → Any (λ z. place_of z ≡ place_of (get_or p k d)) newest
    covered_by newest n k d l f = n.whole k d l (sym (stays flushed (get_or p k d) (Contains-get_or p k d l)) ∙ f)

    -- the newest stay
    pub kept : (newest : List (Observation A)) → AreNewest flushed p newest → ((z : Observation A) → Contains newest z → IsAfter z)
        → IsCovered flushed (p ++ x ∷ []) newest x → AreNewest flushed (p ++ x ∷ []) newest
    kept newest n h covered = record {
      each = λ k d l. carried (get_or newest k d) (h (get_or newest k d) (Contains-get_or newest k d l)) (n.each k d l);
      whole = All-push (IsCovered flushed (p ++ x ∷ []) newest) p x (λ k d l f. covered_by newest n k d l f) covered;
      order = n.order;
    }

    -- no newest one is of the LSA of x
    abbrev pub IsAbsent : List (Observation A) → Type 0
    IsAbsent newest = (z : Observation A) → Contains newest z → place_of z ≡ place_of x → ⊥

    itself : (newest : List (Observation A)) → AreNewest flushed p newest → is_left_out flushed (p ++ x ∷ []) x ≡ false
        → IsAbsent newest → IsNewest flushed (p ++ x ∷ []) x
    itself newest n f none = record {
      among_reported = Contains-push p x;
      lasting = f;
      unsurpassed = All-push (IsNoNewer flushed (p ++ x ∷ []) x) p x
          (λ k d l e g. let a = covered_by newest n k d l g in absurd (none a.1 (a.0, a.2, a.3) (a.4 ∙ e)))
          (λ e g. itself_no_earlier);
    }

    -- x is the first of its LSA
    pub pushed : (newest : List (Observation A)) → AreNewest flushed p newest → is_left_out flushed (p ++ x ∷ []) x ≡ false → IsAbsent newest
        → AreNewest flushed (p ++ x ∷ []) (newest ++ x ∷ [])
    pushed newest n f none = record {
      each = All-push (IsNewest flushed (p ++ x ∷ [])) newest x
          (λ k d l.
          carried (get_or newest k d) (λ e. absurd (none (get_or newest k d) (Contains-get_or newest k d l) (sym e))) (n.each k d l))
          (itself newest n f none);
      whole = All-push (IsCovered flushed (p ++ x ∷ []) (newest ++ x ∷ [])) p x
          (λ k d l g. any_append (λ z. place_of z ≡ place_of (get_or p k d)) newest (x ∷ []) (covered_by newest n k d l g))
          (λ g. Any-push (λ z. place_of z ≡ place_of x) newest x refl);
      order = all_pairs_push (λ y z. place_cmp (place_of y) (place_of z) ≡ Less) newest x n.order
          (λ k d l.
          let z = get_or newest k d in
          let c = Contains-get_or newest k d l in
          let reported = (All-get_or (IsNewest flushed p) newest k d l n.each).among_reported in
          less_from _ (later_place z x (b.at z reported)) (λ e. none z c (place_exact (place_of z) (place_of x) e)));
    }

    pub absent : (newest : List (Observation A)) → AreNewest flushed p newest → is_last newest x ≡ false → IsAbsent newest
    absent newest n last z c e =
        let i = length newest - 1 in
        let l : i < length newest = omega (arith, c.1) in
        let w = get_or newest i z in
        let reported = (All-get_or (IsNewest flushed p) newest i z l n.each).among_reported in
        let found : slice_get newest i ≡ Some w = slice_get-get_or newest i z l in
        let no : is_eq (place_cmp (place_of w) (place_of x)) ≡ false = ap (λ o. is_of o x) (sym found) ∙ last in
        let at_last : (k : ℕ) → k ≡ i → get_or newest k z ≡ z → ⊥ =
        λ (k : ℕ) (q : k ≡ i) (r : get_or newest k z ≡ z).
        both_ways _ no (ap is_eq (equal_places (place_of w) (place_of x) (ap place_of (ap (λ j. get_or newest j z) (sym q) ∙ r) ∙ e))) in
        let before : (k : ℕ) → k < i → get_or newest k z ≡ z → ⊥ =
        λ (k : ℕ) (q : k < i) (r : get_or newest k z ≡ z).
        above_less (place_of (get_or newest k z)) (place_of w) (place_of x) (n.order k i z q l) (ap place_of r ∙ e) (later_place w x (b.at w reported)) in
        let split : (c.0 < i) ⊎ (c.0 ≡ i) = split_last c.0 (length newest) c.1 in
        elim split as (λ _. ⊥) [ inl q ↦ before c.0 q c.2 | inr q ↦ at_last c.0 q c.2 ]

    -- x stands in place of the flush of its LSA, which stands last
    module _ (newest : List (Observation A)) (n : AreNewest flushed p newest) (z : Observation A) (l : length newest - 1 < length newest)
        (at : get_or newest (length newest - 1) z ≡ z) (e : place_of z ≡ place_of x) where
      abbrev front : List (Observation A)
      front = take (length newest - 1) newest

      stood : IsNewest flushed p z
      stood = let P : Observation A → Type 0 = λ v. IsNewest flushed p v in subst P at (n.each (length newest - 1) z l)

      before : (k : ℕ) (d : Observation A) → k < length newest - 1 → place_cmp (place_of (get_or newest k d)) (place_of x) ≡ Less
      before k d q =
          ap (λ v. place_cmp (place_of (get_or newest k d)) v)
          (sym (ap place_of (get_or_default newest (length newest - 1) d z l ∙ at) ∙ e))
          ∙ n.order k (length newest - 1) d q l

      within : (k : ℕ) → k < length front → k < length newest - 1
      within k m = omega (arith, m, length-take (length newest - 1) newest)

      pub front_absent : (w : Observation A) → Contains front w → place_of w ≡ place_of x → ⊥
      front_absent w c s =
          let q = within c.0 c.1 in
          let same : get_or newest c.0 w ≡ w = sym (get_or-take (length newest - 1) newest c.0 w q) ∙ c.2 in
          never_less (place_of (get_or newest c.0 w)) (place_of x) (before c.0 w q) (ap place_of same ∙ s)

      pub only_last : (w : Observation A) → Contains newest w → place_of w ≡ place_of x → w ≡ z
      only_last w c s =
          let i = length newest - 1 in
          let split : (c.0 < i) ⊎ (c.0 ≡ i) = split_last c.0 (length newest) c.1 in
          elim split as (λ _. w ≡ z) [
            | inl q ↦ absurd (never_less (place_of (get_or newest c.0 w)) (place_of x) (before c.0 w q) (ap place_of c.2 ∙ s))
            | inr q ↦ sym c.2 ∙ (ap (λ j. get_or newest j w) q ∙ (get_or_default newest i w z l ∙ at))
          ]

      unsurpassed_by : is_flushed p z ≡ true → is_flushed (p ++ x ∷ []) x ≡ false → (k : ℕ) (d : Observation A) → k < length p
          → IsNoNewer flushed (p ++ x ∷ []) x (get_or p k d)
      unsurpassed_by fz fx k d m s g =
          let y = get_or p k d in
          let c = Contains-get_or p k d m in
          elim (cases_Bool (is_flushed p y)) as (λ _. is_gt (standing_cmp (p ++ x ∷ []) y x) ≡ false) [
            | inl t ↦ flushed_later (is_flushed (p ++ x ∷ []) x) (is_flushed (p ++ x ∷ []) y) _ fx (steady y c ∙ t)
            | inr f ↦
                let first = lasting_first (is_flushed p z) (is_flushed p y) (instance_cmp y.lsa z.lsa) fz f in
                absurd (both_ways _ (stood.unsurpassed k d m (s ∙ sym e) (sym (stays flushed y c) ∙ g)) first)
          ]

      moved : (y : Observation A) → Any (λ w. place_of w ≡ place_of y) newest → Any (λ w. place_of w ≡ place_of y) (front ++ x ∷ [])
      moved y a =
          let i = length newest - 1 in
          let split : (a.0 < i) ⊎ (a.0 ≡ i) = split_last a.0 (length newest) a.2 in
          elim split as (λ _. Any (λ w. place_of w ≡ place_of y) (front ++ x ∷ [])) [
            | inl q ↦ any_append (λ w. place_of w ≡ place_of y) front (x ∷ [])
                (a.0, a.1, omega (arith, q, a.2, length-take i newest), get_or-take i newest a.0 a.1 q ∙ a.3, a.4)
            | inr q ↦
                let same : a.1 ≡ z = sym a.3 ∙ (ap (λ j. get_or newest j a.1) q ∙ (get_or_default newest i a.1 z l ∙ at)) in
                Any-push (λ w. place_of w ≡ place_of y) front x (sym e ∙ (ap place_of (sym same) ∙ a.4))
          ]

      each_front : is_flushed p z ≡ true → All (IsNewest flushed (p ++ x ∷ [])) front
      each_front fz k d m =
          let q = within k m in
          let w = get_or newest k d in
          let P : Observation A → Type 0 = λ v. IsNewest flushed (p ++ x ∷ []) v in
          subst P (sym (get_or-take (length newest - 1) newest k d q))
          (carried w (λ s. absurd (never_less (place_of w) (place_of x) (before k d q) (sym s))) (n.each k d (omega (arith, q, l))))

      order_front : AllPairs (λ v w. place_cmp (place_of v) (place_of w) ≡ Less) front
      order_front j k d q m =
          let i = length newest - 1 in
          let r = within k m in
          let u = get_or-take i newest j d (omega (arith, q, r)) in
          let v = get_or-take i newest k d r in
          ap (λ w. place_cmp (place_of w) (place_of (get_or front k d))) u
          ∙ (ap (λ w. place_cmp (place_of (get_or newest j d)) (place_of w)) v ∙ n.order j k d q (omega (arith, r, l)))

      pub replaced : is_flushed p z ≡ true → is_flushed (p ++ x ∷ []) x ≡ false → AreNewest flushed (p ++ x ∷ []) (front ++ x ∷ [])
      replaced fz fx = record {
        each = All-push (IsNewest flushed (p ++ x ∷ [])) front x (each_front fz) (record {
          among_reported = Contains-push p x;
          lasting = not_left_out flushed (p ++ x ∷ []) x fx;
          unsurpassed = All-push (IsNoNewer flushed (p ++ x ∷ []) x) p x (unsurpassed_by fz fx) (λ s g. itself_no_earlier);
        });
        whole = All-push (IsCovered flushed (p ++ x ∷ []) (front ++ x ∷ [])) p x
            (λ k d m g. moved (get_or p k d) (covered_by newest n k d m g))
            (λ g. Any-push (λ w. place_of w ≡ place_of x) front x refl);
        order = all_pairs_push (λ v w. place_cmp (place_of v) (place_of w) ≡ Less) front x order_front
            (λ k d m.
            let q = within k m in
            ap (λ w. place_cmp (place_of w) (place_of x)) (get_or-take (length newest - 1) newest k d q) ∙ before k d q);
      }

  -- the last one is of the LSA of x
  pub present : (newest : List (Observation A)) (x : Observation A) → is_last newest x ≡ true → Any (λ z. place_of z ≡ place_of x) newest
  present newest x h =
      let i = length newest - 1 in
      elim (slice_get_cases newest i).1 as (λ _. Any (λ z. place_of z ≡ place_of x) newest) [
        | inl s ↦ (i, s.0, s.1, s.3, place_exact (place_of s.0) (place_of x) (eq_true _ (ap (λ o. is_of o x) (sym s.2) ∙ h)))
        | inr s ↦ absurd (both_ways false refl (ap (λ o. is_of o x) (sym s.1) ∙ h))
      ]

-- nothing was looked at
pub nothing : {A : Type 0} (flushed : FlushedLsas) → AreNewest {A = A} flushed [] []
nothing {A} flushed = record {
  each = All-nil _;
  whole = All-nil _;
  order = λ i j d q l. absurd (omega (arith, l));
}
