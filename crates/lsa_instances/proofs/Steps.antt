-- The loop over sorted observations.
use Rattle.std.proofs.Common.{◌≡◌, ℕ, ◌-◌, ◌<◌, ◌⊎◌, refl, sym, ◌∙◌, ap, subst, inl, inr, List, [], ◌∷◌, ◌++◌, length, get_or, take}
use Rattle.std.proofs.Common.{Bool, true, false, ◌&&◌, ◌||◌, Option, Some, None, arith}
use Rattle.std.specs.Prelude.{Contains, slice_get}
use Rattle.std.specs.List.Sorted.{IsSorted}
use Rattle.std.specs.Ordering.{is_eq, is_gt, is_lt, ordering_reverse}
use Rattle.std.specs.declared.cmp.Ordering.{Ordering}
use Rattle.std.specs.declared.cmp.Ordering.TheVariants.{Less, Equal, Greater}
use Rattle.std.proofs.lemmas.Bool.{and_parts, both_ways, cases_Bool, false_from_ne_true}
use Rattle.std.proofs.lemmas.List.{get_or-take, get_or_default, length-take}
use Rattle.std.proofs.lemmas.List.Elements.{All-contains, Contains-push}
use Rattle.std.proofs.lemmas.List.Sorted.{ranks_by, sorted_far}
use Rattle.std.proofs.lemmas.Option.{slice_get_cases}
use Rattle.lsa_codec.specs.Key.{is_at_max_age}
use Rattle.lsa_instances.specs.declared.flush.Flush.{Flush}
use Rattle.lsa_instances.specs.declared.keeping.FlushedLsas.{FlushedLsas}
use Rattle.lsa_instances.specs.declared.keeping.FlushedLsas.TheVariants.{Kept, LeftOut}
use Rattle.lsa_instances.specs.declared.observation.Observation.{Observation}
use Rattle.lsa_instances.specs.Order.{place_cmp, place_of}
use Rattle.lsa_instances.specs.steps.ObservationOrder.{observation_cmp}
use Rattle.lsa_instances.specs.Newest.{AreNewest, IsNewest, flushes, is_flushed, is_left_out}
use Rattle.lsa_instances.specs.steps.Flushing.{flush_so_far, is_flush_of, is_flushed_so_far, is_last, is_last_flush, is_of, is_stopped, newest_after}
use Rattle.lsa_instances.specs.steps.Flushing.{with_first, with_flushed, without_flush}
use Rattle.lsa_instances.proofs.OrderLemmas.{place_exact, observation_total}
use Rattle.lsa_instances.proofs.Comparing.{After, eq_true, equal_places, grown}
use Rattle.lsa_instances.proofs.Looking.{IsAfter, absent, after_live, front_absent, kept, max_age_flushed}
use Rattle.lsa_instances.proofs.Comparing.{no_flush}
use Rattle.lsa_instances.proofs.Looking.{not_left_out, nothing, only_last, present, pushed, replaced, stands_live}
use Rattle.lsa_instances.proofs.Flushed.{Keeps, keeps, keeps_more, none_kept}

back : (r s : Ordering) → r ≡ ordering_reverse s → is_lt s ≡ false → is_gt r ≡ false
back r Less e h = cc
back r Equal e h = ap is_gt e
back r Greater e h = ap is_gt e

not_both : (a b : Bool) → (a && b) ≡ false → b ≡ true → a ≡ false
not_both true b h i = sym i ∙ h
not_both false b h i = refl

or_none : (a b : Bool) → b ≡ false → (a || b) ≡ a
or_none true b h = refl
or_none false b h = h

module _ {A : Type 0} where
  -- of the observations that were looked at, the newest and the flushes are known
  pub record Looked (flushed : FlushedLsas) (p : List (Observation A)) (flush : Option Flush) (newest : List (Observation A)) : Type 0 where
    pub answers : AreNewest flushed p newest
    pub stops : Keeps p flush

  pub begun : (flushed : FlushedLsas) → Looked flushed [] None []
  begun flushed = record { answers = nothing flushed; stops = none_kept }

  pub after : (all : List (Observation A)) (i : ℕ) (d : Observation A) → IsSorted observation_cmp all → i < length all → After (take i all) (get_or all i d)
  after all i d up l = record {
    at = λ y c.
        let k = c.0 in
        let below : k < i = omega (arith, c.1, length-take i all) in
        let same : get_or all k y ≡ y = sym (get_or-take i all k y below) ∙ c.2 in
        let far : is_lt (observation_cmp (get_or all i y) (get_or all k y)) ≡ false =
        sorted_far (λ a b. is_lt (observation_cmp a b)) (ranks_by observation_total (λ a. a)) all up k i y (omega arith) l in
        let P : Observation A → Type 0 = λ z. is_gt (observation_cmp z (get_or all i d)) ≡ false in
        let Q : Observation A → Type 0 = λ z. is_gt (observation_cmp (get_or all k y) z) ≡ false in
        subst P same (subst Q (get_or_default all i y d l) (back _ _ (observation_total.antisymm (get_or all k y) (get_or all i y)) far));
  }

  module _ (flushed : FlushedLsas) (p : List (Observation A)) (x : Observation A) (b : After p x) where
    -- what is known of the last of the newest, where it is of the LSA of x
    pub record IsEnd (newest : List (Observation A)) (z : Observation A) : Type 0 where
      pub within : length newest - 1 < length newest
      pub at : get_or newest (length newest - 1) z ≡ z
      pub found : slice_get newest (length newest - 1) ≡ Some z
      pub same : place_of z ≡ place_of x

    last_of : (newest : List (Observation A)) → is_last newest x ≡ true → (z : Observation A) × IsEnd newest z
    last_of newest h =
        elim (slice_get_cases newest (length newest - 1)).1 as (λ _. (z : Observation A) × IsEnd newest z) [
          | inl s ↦ (
            s.0,
            record {
              within = s.1;
              at = s.3;
              found = s.2;
              same = place_exact (place_of s.0) (place_of x) (eq_true _ (ap (λ o. is_of o x) (sym s.2) ∙ h));
            },
          )
          | inr s ↦ absurd (both_ways false refl (ap (λ o. is_of o x) (sym s.1) ∙ h))
        ]

    -- a flush that stands last is of the LSA of x
    flush_is_last : (newest : List (Observation A)) → is_last_flush newest x ≡ true → is_last newest x ≡ true
    flush_is_last newest h =
        elim (slice_get_cases newest (length newest - 1)).1 as (λ _. is_last newest x ≡ true) [
          | inl s ↦ ap (λ o. is_of o x) s.2 ∙ (and_parts (is_at_max_age s.0.lsa) _ (ap (λ o. is_flush_of o x) (sym s.2) ∙ h)).1
          | inr s ↦ absurd (both_ways false refl (ap (λ o. is_flush_of o x) (sym s.1) ∙ h))
        ]

    -- x was flushed, and flushed LSAs are kept
    with_kept : (newest : List (Observation A)) → AreNewest flushed p newest → is_left_out flushed (p ++ x ∷ []) x ≡ false
        → ((z : Observation A) → Contains newest z → IsAfter flushed p x b z) → AreNewest flushed (p ++ x ∷ []) (with_first newest x)
    with_kept newest n f h =
        elim (cases_Bool (is_last newest x)) as (λ _. AreNewest flushed (p ++ x ∷ []) (with_first newest x)) [
          | inl t ↦ rw t (kept flushed p x b newest n h (λ g. present newest x t))
          | inr t ↦ rw t (pushed flushed p x b newest n f (absent flushed p x b newest n t))
        ]

    -- x was not flushed, and no flush of its LSA stands
    no_flush_stands : (newest : List (Observation A)) → AreNewest flushed p newest → is_last_flush newest x ≡ false
        → (z : Observation A) → Contains newest z → IsAfter flushed p x b z
    no_flush_stands newest n f z c e =
        elim (cases_Bool (is_last newest x)) as (λ _. (is_flushed (p ++ x ∷ []) x ≡ true) ⊎ (is_flushed (p ++ x ∷ []) z ≡ false)) [
          | inl t ↦
              let w = last_of newest t in
              let k = w.1 in
              let same : z ≡ w.0 = only_last flushed p x b newest n w.0 k.within k.at k.same z c (sym e) in
              let stood : IsNewest flushed p z = All-contains (IsNewest flushed p) newest z n.each c in
              let eq : is_eq (place_cmp (place_of w.0) (place_of x)) ≡ true = ap is_eq (equal_places (place_of w.0) (place_of x) k.same) in
              let young : is_at_max_age w.0.lsa ≡ false = not_both _ _ (ap (λ o. is_flush_of o x) (sym k.found) ∙ f) eq in
              let live = stands_live flushed p z stood (ap (λ (v : Observation A). is_at_max_age v.lsa) same ∙ young) in
              after_live flushed p x b z stood.among_reported live e
          | inr t ↦ absurd (absent flushed p x b newest n t z c (sym e))
        ]

    -- x was not flushed
    with_live : (newest : List (Observation A)) → AreNewest flushed p newest → is_flushed (p ++ x ∷ []) x ≡ false
        → AreNewest flushed (p ++ x ∷ []) (with_first (without_flush newest x) x)
    with_live newest n f =
        elim (cases_Bool (is_last_flush newest x)) as (λ _. AreNewest flushed (p ++ x ∷ []) (with_first (without_flush newest x) x)) [
          | inl t ↦
              let w = last_of newest (flush_is_last newest t) in
              let k = w.1 in
              let front : List (Observation A) = take (length newest - 1) newest in
              let gone : is_last front x ≡ false = false_from_ne_true _
              (λ s. let a = present front x s in front_absent flushed p x b newest n w.0 k.within k.at k.same a.1 (a.0, a.2, a.3) a.4) in
              let stood : IsNewest flushed p w.0 =
              let P : Observation A → Type 0 = λ v. IsNewest flushed p v in subst P k.at (n.each (length newest - 1) w.0 k.within) in
              let old = (and_parts (is_at_max_age w.0.lsa) _ (ap (λ o. is_flush_of o x) (sym k.found) ∙ t)).0 in
              rw (t, gone) (replaced flushed p x b newest n w.0 k.within k.at k.same (max_age_flushed p w.0 stood.among_reported old) f)
          | inr t ↦ rw t (with_kept newest n (not_left_out flushed (p ++ x ∷ []) x f) (no_flush_stands newest n t))
        ]

    -- x was flushed
    with_gone : (k : FlushedLsas) → k ≡ flushed → (newest : List (Observation A)) → AreNewest flushed p newest → is_flushed (p ++ x ∷ []) x ≡ true
        → AreNewest flushed (p ++ x ∷ []) (with_flushed k newest x)
    with_gone LeftOut e newest n f =
        let out : is_left_out flushed (p ++ x ∷ []) x ≡ true = ap (λ k. is_left_out k (p ++ x ∷ []) x) (sym e) ∙ f in
        kept flushed p x b newest n (λ z c s. inl f) (λ g. absurd (both_ways _ g out))
    with_gone Kept e newest n f =
        with_kept newest n (ap (λ k. is_left_out k (p ++ x ∷ []) x) (sym e)) (λ z c s. inl f)

    module _ (flush : Option Flush) (newest : List (Observation A)) (k : Looked flushed p flush newest) where
      flushed_so_far : is_flushed (p ++ x ∷ []) x ≡ is_flushed_so_far flush x
      flushed_so_far =
          elim (cases_Bool (is_at_max_age x.lsa)) as (λ _. is_flushed (p ++ x ∷ []) x ≡ is_flushed_so_far flush x) [
            | inl m ↦ max_age_flushed (p ++ x ∷ []) x (Contains-push p x) m ∙ sym (ap (λ v. v || is_stopped flush x) m)
            | inr m ↦
                (grown p x x ∙ (or_none (is_flushed p x) (flushes x x) (no_flush x x m) ∙ sym (k.stops.stops x b)))
                ∙ sym (ap (λ v. v || is_stopped flush x) m)
          ]

      stops_after : Keeps (p ++ x ∷ []) (flush_so_far flush x)
      stops_after =
          elim (cases_Bool (is_at_max_age x.lsa)) as (λ _. Keeps (p ++ x ∷ []) (flush_so_far flush x)) [
            | inl m ↦ rw m (keeps_more p x flush k.stops b m)
            | inr m ↦ rw m (keeps p x flush k.stops m)
          ]

      answers_after : AreNewest flushed (p ++ x ∷ []) (newest_after flushed flush newest x)
      answers_after =
          elim (cases_Bool (is_flushed_so_far flush x)) as (λ _. AreNewest flushed (p ++ x ∷ []) (newest_after flushed flush newest x)) [
            | inl t ↦ rw t (with_gone flushed refl newest k.answers (flushed_so_far ∙ t))
            | inr t ↦ rw t (with_live newest k.answers (flushed_so_far ∙ t))
          ]

      pub looked_at : Looked flushed (p ++ x ∷ []) (flush_so_far flush x) (newest_after flushed flush newest x)
      looked_at = record { answers = answers_after; stops = stops_after }
