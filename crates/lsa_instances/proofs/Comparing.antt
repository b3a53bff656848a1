-- Comparing observations, and which of them are flushed.
use Rattle.std.proofs.Common.{◌≡◌, ℕ, ◌-◌, ◌*◌, ◌<◌, ◌⊎◌, refl, sym, ◌∙◌, ap, inl, inr, List, [], ◌∷◌, ◌++◌, Bool, true, false, not}
use Rattle.std.proofs.Common.{◌||◌, Option, Some, None, arith}
use Rattle.std.specs.Prelude.{Contains}
use Rattle.std.specs.List.{Any}
use Rattle.std.specs.Ordering.{bool_cmp, is_eq, is_gt, ordering_reverse, ordering_then}
use Rattle.std.specs.declared.cmp.Ordering.{Ordering}
use Rattle.std.specs.declared.cmp.Ordering.TheVariants.{Less, Equal, Greater}
use Rattle.std.proofs.lemmas.Bool.{and_from, and_left, both_ways, false_from_ne_true, le-ltb, not_from_false, or_parts}
use Rattle.std.proofs.lemmas.Cmp.{tied_itself}
use Rattle.std.proofs.lemmas.List.Elements.{Contains-append_left}
use Rattle.std.proofs.lemmas.List.Folds.{list_any-append, list_any-from_Any}
use Rattle.lsa_codec.specs.Fields.{age_of}
use Rattle.lsa_codec.specs.Key.{is_at_max_age}
use Rattle.lsa_instances.specs.declared.place.Place.{Place}
use Rattle.lsa_instances.specs.declared.observation.Observation.{Observation}
use Rattle.lsa_instances.specs.Instance.{instance_cmp}
use Rattle.lsa_instances.specs.Order.{place_cmp, place_of}
use Rattle.lsa_instances.specs.steps.ObservationOrder.{observation_cmp}
use Rattle.lsa_instances.specs.Newest.{second, is_after, flushes, is_flushed}
use Rattle.lsa_instances.proofs.OrderLemmas.{instance_total, place_total}

-- ---- orderings

pub parts : (r s : Ordering) → is_gt (ordering_then r s) ≡ false → (is_gt r ≡ false) × (r ≡ Equal → is_gt s ≡ false)
parts Less s h = (refl, λ e. cc)
parts Equal s h = (refl, λ e. h)
parts Greater s h = cc

pub eq_true : (o : Ordering) → is_eq o ≡ true → o ≡ Equal
eq_true Less h = cc
eq_true Equal h = refl
eq_true Greater h = cc

pub less_from : (o : Ordering) → is_gt o ≡ false → (o ≡ Equal → ⊥) → o ≡ Less
less_from Less g n = refl
less_from Equal g n = absurd (n refl)
less_from Greater g n = cc

pub tie : (r s : Ordering) → r ≡ ordering_reverse s → is_gt r ≡ false → is_gt s ≡ false → r ≡ Equal
tie Equal s e g h = refl
tie Less Less e g h = cc
tie Less Equal e g h = cc
tie Less Greater e g h = cc
tie Greater s e g h = cc

pub equal_places : (p q : Place) → p ≡ q → place_cmp p q ≡ Equal
equal_places p q e = ap (λ z. place_cmp p z) (sym e) ∙ tied_itself place_total p

-- ---- membership

pub any_of : {X : Type 0} (P : X → Type 0) (xs : List X) (x : X) → Contains xs x → P x → Any P xs
any_of P xs x c h = (c.0, x, c.1, c.2, h)

pub any_append : {X : Type 0} (P : X → Type 0) (xs ys : List X) → Any P xs → Any P (xs ++ ys)
any_append P xs ys a =
    let c : Contains xs a.1 = (a.0, a.2, a.3) in
    any_of P (xs ++ ys) a.1 (Contains-append_left xs ys a.1 c) a.4

pub or_end : (b : Bool) → (b || false) ≡ b
or_end true = refl
or_end false = refl

pub never_after : (s : Option ℕ) (age : ℕ) → is_after s s age ≡ false
never_after None age = refl
never_after (Some s) age = le-ltb s (s - age * second) (omega arith)

-- where the first of two is flushed, or the second is not, the first stands no earlier by an instance that is not
-- newer
pub no_earlier : (a b : Bool) (o : Ordering) → (b ≡ true) ⊎ (a ≡ false) → is_gt o ≡ false → is_gt (ordering_then (bool_cmp a b) o) ≡ false
no_earlier true true o s g = g
no_earlier false true o s g = refl
no_earlier false false o s g = g
no_earlier true false o (inl t) g = cc
no_earlier true false o (inr t) g = cc

pub flushed_later : (a b : Bool) (o : Ordering) → a ≡ false → b ≡ true → is_gt (ordering_then (bool_cmp a b) o) ≡ false
flushed_later a b o h i = rw (h, i) refl

pub lasting_first : (a b : Bool) (o : Ordering) → a ≡ true → b ≡ false → is_gt (ordering_then (bool_cmp a b) o) ≡ true
lasting_first a b o h i = rw (h, i) refl

pub both_flushed : (a b : Bool) (o : Ordering) → a ≡ true → b ≡ true → is_gt (ordering_then (bool_cmp a b) o) ≡ false → is_gt o ≡ false
both_flushed true true o h i g = g
both_flushed true false o h i g = cc
both_flushed false b o h i g = cc

pub split_last : (k n : ℕ) → k < n → (k < n - 1) ⊎ (k ≡ n - 1)
split_last k n l = grind (arith, l)

pub never_less : (q r : Place) → place_cmp q r ≡ Less → q ≡ r → ⊥
never_less q r l e = let t = equal_places q r e in absurd (cc)

pub above_less : (q r s : Place) → place_cmp q r ≡ Less → q ≡ s → is_gt (place_cmp r s) ≡ false → ⊥
above_less q r s l e g =
    let less : place_cmp s r ≡ Less = ap (λ v. place_cmp v r) (sym e) ∙ l in
    let more : place_cmp r s ≡ Greater = place_total.antisymm r s ∙ ap ordering_reverse less in
    both_ways (is_gt (place_cmp r s)) g (ap is_gt more)

module _ {A : Type 0} where
  -- x stands after all of these
  pub record After (p : List (Observation A)) (x : Observation A) : Type 0 where
    pub at : (y : Observation A) → Contains p y → is_gt (observation_cmp y x) ≡ false

  pub later_place : (y x : Observation A) → is_gt (observation_cmp y x) ≡ false → is_gt (place_cmp (place_of y) (place_of x)) ≡ false
  later_place y x h = (parts (place_cmp (place_of y) (place_of x)) (instance_cmp x.lsa y.lsa) h).0

  pub later_instance : (y x : Observation A) → is_gt (observation_cmp y x) ≡ false → place_of y ≡ place_of x → is_gt (instance_cmp x.lsa y.lsa) ≡ false
  later_instance y x h e = (parts (place_cmp (place_of y) (place_of x)) (instance_cmp x.lsa y.lsa) h).1 (equal_places (place_of y) (place_of x) e)

  -- ---- flushes

  pub flushes_itself : (y : Observation A) → is_at_max_age y.lsa ≡ true → flushes y y ≡ true
  flushes_itself y m =
      and_from _ _ m (and_from _ _ (ap is_eq (tied_itself place_total (place_of y)))
      (and_from _ _ (ap (λ o. not (is_gt o)) (tied_itself instance_total y.lsa)) (not_from_false _ (never_after y.seen (age_of y.lsa)))))

  pub no_flush : (x y : Observation A) → is_at_max_age x.lsa ≡ false → flushes x y ≡ false
  no_flush x y m = and_left _ _ m

  pub lasting_is_live : (p : List (Observation A)) (y : Observation A) → Contains p y → is_flushed p y ≡ false → is_at_max_age y.lsa ≡ false
  lasting_is_live p y c f =
      false_from_ne_true _ (λ m. both_ways (is_flushed p y) f
      (list_any-from_Any (λ g. flushes g y) p (any_of (λ g. flushes g y ≡ true) p y c (flushes_itself y m))))

  pub grown : (p : List (Observation A)) (x y : Observation A) → is_flushed (p ++ x ∷ []) y ≡ (is_flushed p y || flushes x y)
  grown p x y = list_any-append (λ f. flushes f y) p (x ∷ []) ∙ ap (λ b. is_flushed p y || b) (or_end (flushes x y))

  pub lasted : (p : List (Observation A)) (x y : Observation A) → is_flushed (p ++ x ∷ []) y ≡ false → is_flushed p y ≡ false
  lasted p x y f = (or_parts (is_flushed p y) (flushes x y) (sym (grown p x y) ∙ f)).0
