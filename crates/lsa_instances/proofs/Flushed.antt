-- What is kept of flushes decides which later observations are flushed by those that were looked at.
use Rattle.std.proofs.Common.{◌≡◌, ℕ, ◌-◌, ◌*◌, refl, sym, ◌∙◌, ap, inl, inr, List, [], ◌∷◌, ◌++◌, Bool, true, false, not, ◌&&◌, ◌||◌, Option, Some}
use Rattle.std.proofs.Common.{None, max, arith}
use Rattle.std.specs.Prelude.{nat_lt}
use Rattle.std.specs.List.{Any}
use Rattle.std.specs.Ordering.{is_eq, is_gt}
use Rattle.std.specs.declared.cmp.Ordering.{Ordering}
use Rattle.std.specs.declared.cmp.Ordering.TheVariants.{Less, Equal, Greater}
use Rattle.std.proofs.lemmas.Bool.{and_left, both_ways, cases_Bool, or_from}
use Rattle.std.proofs.lemmas.Bool.Decides.{nat_tests}
use Rattle.std.proofs.lemmas.List.Elements.{Contains-append_left, Contains-push}
use Rattle.std.proofs.lemmas.List.Quantifiers.{Any-push}
use Rattle.lsa_codec.specs.Fields.{age_of}
use Rattle.lsa_codec.specs.Key.{is_at_max_age}
use Rattle.lsa_instances.specs.declared.flush.Flush.{Flush}
use Rattle.lsa_instances.specs.declared.place.Place.{Place}
use Rattle.lsa_instances.specs.declared.observation.Observation.{Observation}
use Rattle.lsa_instances.specs.Instance.{instance_cmp}
use Rattle.lsa_instances.specs.Order.{place_cmp, place_of}
use Rattle.lsa_instances.specs.steps.ObservationOrder.{observation_cmp}
use Rattle.lsa_instances.specs.Newest.{second, is_after, began_after, flushes, is_flushed}
use Rattle.lsa_instances.specs.steps.Flushing.{is_stopped, latest, last_with, flush_after}
use Rattle.lsa_instances.proofs.OrderLemmas.{place_exact, place_total}
use Rattle.lsa_instances.proofs.Comparing.{After, any_append, eq_true, grown, later_instance, later_place, less_from, no_flush}

or_true : (b : Bool) → true ≡ (b || true)
or_true true = refl
or_true false = refl

or_end : (b c : Bool) → c ≡ false → (b || c) ≡ b
or_end true c h = refl
or_end false c h = h

both_later : (a b v : ℕ) → not (nat_lt (max a b) v) ≡ (not (nat_lt a v) || not (nat_lt b v))
both_later a b v = grind (arith, nat_tests)

-- what began after the later of two moments began after both
after_latest : (a b s : Option ℕ) (age : ℕ) → not (is_after (latest a b) s age) ≡ (not (is_after a s age) || not (is_after b s age))
after_latest None b s age = refl
after_latest (Some a) None s age = or_true (not (is_after (Some a) s age))
after_latest (Some a) (Some b) None age = refl
after_latest (Some a) (Some b) (Some s) age = both_later a b (s - age * second)

all_but_last : (a b c d : Bool) → a ≡ true → b ≡ true → c ≡ false → (a && (b && (not c && d))) ≡ d
all_but_last a b c d h i j = rw (h, i, j) refl

not_same : (b : Bool) (c d : Bool) → b ≡ false → (c && (b && d)) ≡ false
not_same b true d h = rw h refl
not_same b false d h = refl

and_at : (a b : Bool) → a ≡ true → (a && b) ≡ b
and_at a b h = rw h refl

or_same : (a b c d : Bool) → a ≡ b → c ≡ d → (a || c) ≡ (b || d)
or_same a b c d h i = cc

less_too : (q r s : Place) → place_cmp r s ≡ Less → (o : Ordering) → place_cmp q r ≡ o → is_gt o ≡ false → place_cmp q s ≡ Less
less_too q r s l Less e g = place_total.trans q r s e l
less_too q r s l Equal e g = place_total.congr q r s e ∙ l
less_too q r s l Greater e g = cc

module _ {A : Type 0} where
  pub record Keeps (p : List (Observation A)) (flush : Option Flush) : Type 0 where
    pub stops : (y : Observation A) → After p y → is_stopped flush y ≡ is_flushed p y
    pub held : (f : Flush) → flush ≡ Some f → Any (λ y. place_of y ≡ f.place) p

  pub none_kept : Keeps [] None
  none_kept = record { stops = λ y b. refl; held = λ f e. cc }

  module _ (p : List (Observation A)) (x : Observation A) where
    front : (y : Observation A) → After (p ++ x ∷ []) y → After p y
    front y b = record { at = λ z c. b.at z (Contains-append_left p (x ∷ []) z c) }

    -- an observation that flushes nothing
    pub keeps : (flush : Option Flush) → Keeps p flush → is_at_max_age x.lsa ≡ false → Keeps (p ++ x ∷ []) flush
    keeps flush k m = record {
      stops = λ y b. k.stops y (front y b) ∙ sym (grown p x y ∙ or_end (is_flushed p y) (flushes x y) (no_flush x y m));
      held = λ f e. any_append (λ y. place_of y ≡ f.place) p (x ∷ []) (k.held f e);
    }

    -- an instance of the LSA of x that is not newer is stopped by the flush, or by x
    same_lsa : (flush : Option Flush) (y : Observation A) → place_of x ≡ place_of y
        → not (began_after (last_with flush x) y) ≡ (is_stopped flush y || not (began_after x.seen y))
    same_lsa None y e = refl
    same_lsa (Some f) y e =
        let Same : Type 0 = not (began_after (last_with (Some f) x) y) ≡ (is_stopped (Some f) y || not (began_after x.seen y)) in
        let at_true : is_eq (place_cmp f.place (place_of x)) ≡ true → Same =
        λ (t : is_eq (place_cmp f.place (place_of x)) ≡ true).
        let u : is_eq (place_cmp f.place (place_of y)) ≡ true = ap (λ q. is_eq (place_cmp f.place q)) (sym e) ∙ t in
        rw (t, u) (after_latest f.last x.seen y.seen (age_of y.lsa)) in
        let at_false : is_eq (place_cmp f.place (place_of x)) ≡ false → Same =
        λ (t : is_eq (place_cmp f.place (place_of x)) ≡ false).
        let u : is_eq (place_cmp f.place (place_of y)) ≡ false = ap (λ q. is_eq (place_cmp f.place q)) (sym e) ∙ t in
        rw (t, u) refl in
        elim (cases_Bool (is_eq (place_cmp f.place (place_of x)))) as (λ _. Same)
        [ inl t ↦ at_true t | inr t ↦ at_false t ]

    flushing : (y : Observation A) → is_at_max_age x.lsa ≡ true → is_eq (place_cmp (place_of x) (place_of y)) ≡ true
        → is_gt (instance_cmp y.lsa x.lsa) ≡ false
        → flushes x y ≡ not (began_after x.seen y)
    flushing y m e g = all_but_last (is_at_max_age x.lsa) _ _ _ m e g

    before_both : (q r s : Place) → is_gt (place_cmp q r) ≡ false → is_gt (place_cmp r s) ≡ false
        → is_eq (place_cmp r s) ≡ false → is_eq (place_cmp q s) ≡ false
    before_both q r s g h n =
        let rs : place_cmp r s ≡ Less = less_from (place_cmp r s) h (λ e. both_ways (is_eq (place_cmp r s)) n (ap is_eq e)) in
        ap is_eq (less_too q r s rs (place_cmp q r) refl g)

    other_lsa : (flush : Option Flush) (y : Observation A) → After p x → Keeps p flush
        → is_gt (observation_cmp x y) ≡ false → is_eq (place_cmp (place_of x) (place_of y)) ≡ false
        → is_stopped flush y ≡ false
    other_lsa None y b k g n = refl
    other_lsa (Some f) y b k g n =
        let a = k.held f refl in
        let h : is_gt (place_cmp (place_of a.1) (place_of x)) ≡ false = later_place a.1 x (b.at a.1 (a.0, a.2, a.3)) in
        let h' : is_gt (place_cmp f.place (place_of x)) ≡ false = ap (λ q. is_gt (place_cmp q (place_of x))) (sym a.4) ∙ h in
        and_left _ _ (before_both f.place (place_of x) (place_of y) h' (later_place x y g) n)

    -- an observation at MaxAge
    pub keeps_more : (flush : Option Flush) → Keeps p flush → After p x → is_at_max_age x.lsa ≡ true
        → Keeps (p ++ x ∷ []) (Some (flush_after flush x))
    keeps_more flush k b m = record {
      stops = λ y d.
          let g = d.at x (Contains-push p x) in
          let so_far = k.stops y (front y d) in
          let P : Type 0 = is_stopped (Some (flush_after flush x)) y ≡ (is_flushed p y || flushes x y) in
          let at_true : is_eq (place_cmp (place_of x) (place_of y)) ≡ true → P =
          λ (t : is_eq (place_cmp (place_of x) (place_of y)) ≡ true).
          let e = place_exact (place_of x) (place_of y) (eq_true _ t) in
          let z = flushing y m t (later_instance x y g e) in
          and_at _ _ t ∙ (same_lsa flush y e ∙ or_same (is_stopped flush y) (is_flushed p y) _ (flushes x y) so_far (sym z)) in
          let at_false : is_eq (place_cmp (place_of x) (place_of y)) ≡ false → P =
          λ (t : is_eq (place_cmp (place_of x) (place_of y)) ≡ false).
          let z : flushes x y ≡ false = not_same _ (is_at_max_age x.lsa) _ t in
          and_left _ _ t ∙ sym (or_from _ _ (sym so_far ∙ other_lsa flush y b k g t) z) in
          elim (cases_Bool (is_eq (place_cmp (place_of x) (place_of y)))) as (λ _. P) [ inl t ↦ at_true t | inr t ↦ at_false t ] ∙ sym (grown p x y);
      held = λ f e. let same : flush_after flush x ≡ f = cc in Any-push (λ y. place_of y ≡ f.place) p x (ap (λ (h : Flush). h.place) same);
    }
