-- What is kept of sorted observations that were looked at decides which of the others they forget.
use Rattle.std.proofs.Common.{◌≡◌, ℕ, refl, sym, ◌∙◌, ap, inl, inr, List, []}
use Rattle.std.proofs.Common.{◌∷◌, ◌++◌, Bool, true, false, ◌&&◌, ◌||◌, Option, Some, None, max, arith}
use Rattle.std.specs.Prelude.{Contains, nat_lt}
use Rattle.std.specs.Cmp.{IsTotalOrder}
use Rattle.std.specs.List.{Any, list_any}
use Rattle.std.specs.Ordering.{is_eq, is_gt, is_lt, ordering_reverse, ordering_then}
use Rattle.std.specs.declared.cmp.Ordering.{Ordering}
use Rattle.std.specs.declared.cmp.Ordering.TheVariants.{Less, Equal, Greater}
use Rattle.std.proofs.lemmas.Bool.{cases_Bool, or_from}
use Rattle.std.proofs.lemmas.Bool.Decides.{nat_tests}
use Rattle.std.proofs.lemmas.Cmp.{on_total, then_total, tied_itself}
use Rattle.std.proofs.lemmas.List.Elements.{Contains-append_left, Contains-push}
use Rattle.std.proofs.lemmas.List.Folds.{list_any-append}
use Rattle.std.proofs.lemmas.List.Quantifiers.{Any-push}
use Rattle.lsa_codec.specs.Fields.{age_of}
use Rattle.lsa_instances.specs.declared.place.Place.{Place}
use Rattle.lsa_instances.specs.declared.observation.Observation.{Observation}
use Rattle.lsa_instances.specs.Instance.{instance_id_cmp, instance_id_of}
use Rattle.lsa_instances.specs.Newest.{began_after, is_after}
use Rattle.lsa_instances.specs.Order.{place_cmp, place_of}
use Rattle.lsa_instances.proofs.OrderLemmas.{instance_id_total, place_exact, place_total}
use Rattle.forgotten_instances.specs.declared.past.Past.{Past}
use Rattle.forgotten_instances.specs.Forgotten.{is_older}
use Rattle.forgotten_instances.specs.steps.Walking.{age_cmp, began, began_of, is_before, is_of, last_of, later, older_than, past_with}

-- ---- orders

parts : (r s : Ordering) → is_gt (ordering_then r s) ≡ false → (is_gt r ≡ false) × (r ≡ Equal → is_gt s ≡ false)
parts Less s h = (refl, λ e. cc)
parts Equal s h = (refl, λ e. h)
parts Greater s h = cc

pub eq_true : (o : Ordering) → is_eq o ≡ true → o ≡ Equal
eq_true Less h = cc
eq_true Equal h = refl
eq_true Greater h = cc

less_from : (o : Ordering) → is_gt o ≡ false → is_eq o ≡ false → o ≡ Less
less_from Less g n = refl
less_from Equal g n = cc
less_from Greater g n = cc

not_less : (o : Ordering) → is_eq o ≡ true → is_lt o ≡ false
not_less Less h = cc
not_less Equal h = refl
not_less Greater h = cc

not_equal : (o : Ordering) → o ≡ Less → is_eq o ≡ false
not_equal o h = ap is_eq h

is_less : (o : Ordering) → o ≡ Less → is_lt o ≡ true
is_less o h = ap is_lt h

module _ {X : Type 0} (cmp : X → X → Ordering) (total : IsTotalOrder cmp) where
  less_by : (q r s : X) → cmp r s ≡ Less → (o : Ordering) → cmp q r ≡ o → is_gt o ≡ false → cmp q s ≡ Less
  less_by q r s l Less e g = total.trans q r s e l
  less_by q r s l Equal e g = total.congr q r s e ∙ l
  less_by q r s l Greater e g = cc

  pub less_too : (q r s : X) → cmp r s ≡ Less → is_gt (cmp q r) ≡ false → cmp q s ≡ Less
  less_too q r s l g = less_by q r s l (cmp q r) refl g

  -- what stands beside one of two equal values stands so beside the other
  pub beside : (x y z : X) → cmp x y ≡ Equal → cmp z x ≡ cmp z y
  beside x y z e = total.antisymm z x ∙ ap ordering_reverse (total.congr x y z e) ∙ sym (total.antisymm z y)

equal_places : (p q : Place) → p ≡ q → place_cmp p q ≡ Equal
equal_places p q e = ap (λ z. place_cmp p z) (sym e) ∙ tied_itself place_total p

-- ---- moments

pub nothing_before : (moment : Option ℕ) → is_before moment None ≡ false
nothing_before None = refl
nothing_before (Some m) = refl

or_end : (b : Bool) → (b || false) ≡ b
or_end true = refl
or_end false = refl

one_later : (m a b : ℕ) → nat_lt m (max a b) ≡ (nat_lt m a || nat_lt m b)
one_later m a b = grind (arith, nat_tests)

before_later : (moment a b : Option ℕ) → is_before moment (later a b) ≡ (is_before moment a || is_before moment b)
before_later None a b = refl
before_later (Some m) None b = refl
before_later (Some m) (Some a) None = sym (or_end (nat_lt m a))
before_later (Some m) (Some a) (Some b) = one_later m a b

before_began : (moment seen : Option ℕ) (age : ℕ) → is_before moment (began_of seen age) ≡ is_after moment seen age
before_began None seen age = refl
before_began (Some m) None age = refl
before_began (Some m) (Some s) age = refl

-- ---- tests

no_second : (a b c : Bool) → b ≡ false → ((a && b) && c) ≡ false
no_second true b c h = rw h refl
no_second false b c h = refl

no_first : (a b c : Bool) → a ≡ false → ((a && b) && c) ≡ false
no_first a b c h = rw h refl

both_first : (a b c : Bool) → a ≡ true → b ≡ true → ((a && b) && c) ≡ c
both_first a b c h i = rw (h, i) refl

or_none : (a b : Bool) → b ≡ false → (a || b) ≡ a
or_none true b h = refl
or_none false b h = h

or_same : (a b c d : Bool) → a ≡ b → c ≡ d → (a || c) ≡ (b || d)
or_same a b c d h i = cc

module _ {A : Type 0} where
  pub age_total : IsTotalOrder (age_cmp {A = A})
  age_total =
      then_total (on_total (λ (x : Observation A). place_of x) place_total) (on_total (λ (x : Observation A). instance_id_of x.lsa) instance_id_total)

  -- x stands after all of these
  pub record After (p : List (Observation A)) (x : Observation A) : Type 0 where
    pub at : (y : Observation A) → Contains p y → is_gt (age_cmp y x) ≡ false

  -- z is of an older instance than y, and began after the moment
  abbrev pub shows : Option ℕ → Observation A → Observation A → Bool
  shows moment y z = is_older z y && began_after moment z

  abbrev pub shown : List (Observation A) → Option ℕ → Observation A → Bool
  shown p moment y = list_any (shows moment y) p

  -- the newest instance of what was looked at last
  abbrev IsHeld : Past → Observation A → Type 0
  IsHeld past z = (place_of z ≡ past.place) × (instance_id_of z.lsa ≡ past.instance)

  pub record Keeps (p : List (Observation A)) (past : Option Past) : Type 0 where
    pub known : (y : Observation A) → After p y → (moment : Option ℕ) → is_before moment (older_than past y) ≡ shown p moment y
    pub held : (f : Past) → past ≡ Some f → Any (IsHeld f) p

  pub none_kept : Keeps [] None
  none_kept = record { known = λ y b moment. nothing_before moment; held = λ f e. cc }

  later_place : (y x : Observation A) → is_gt (age_cmp y x) ≡ false → is_gt (place_cmp (place_of y) (place_of x)) ≡ false
  later_place y x h = (parts (place_cmp (place_of y) (place_of x)) (instance_id_cmp (instance_id_of y.lsa) (instance_id_of x.lsa)) h).0

  later_instance : (y x : Observation A) → is_gt (age_cmp y x) ≡ false → place_of y ≡ place_of x
      → is_gt (instance_id_cmp (instance_id_of y.lsa) (instance_id_of x.lsa)) ≡ false
  later_instance y x h e =
      (parts (place_cmp (place_of y) (place_of x)) (instance_id_cmp (instance_id_of y.lsa) (instance_id_of x.lsa)) h).1
      (equal_places (place_of y) (place_of x) e)

  grown : (p : List (Observation A)) (x y : Observation A) (moment : Option ℕ) → shown (p ++ x ∷ []) moment y ≡ (shown p moment y || shows moment y x)
  grown p x y moment = list_any-append (shows moment y) p (x ∷ []) ∙ ap (λ b. shown p moment y || b) (or_end (shows moment y x))

  -- two observations of one instance
  same_older : (x y z : Observation A) → place_of x ≡ place_of y → instance_id_cmp (instance_id_of x.lsa) (instance_id_of y.lsa) ≡ Equal
      → is_older z x ≡ is_older z y
  same_older x y z e q =
      let same : instance_id_cmp (instance_id_of z.lsa) (instance_id_of x.lsa) ≡ instance_id_cmp (instance_id_of z.lsa) (instance_id_of y.lsa) =
      beside instance_id_cmp instance_id_total (instance_id_of x.lsa) (instance_id_of y.lsa) (instance_id_of z.lsa) q in
      λ i. is_eq (place_cmp (place_of z) (e i)) && is_lt (same i)

  shown_same : (p : List (Observation A)) (x y : Observation A) (moment : Option ℕ) → place_of x ≡ place_of y
      → instance_id_cmp (instance_id_of x.lsa) (instance_id_of y.lsa) ≡ Equal → shown p moment x ≡ shown p moment y
  shown_same p x y moment e q = λ i. list_any (λ z. same_older x y z e q i && began_after moment z) p

  module _ (p : List (Observation A)) (x : Observation A) (b : After p x) where
    front : (y : Observation A) → After (p ++ x ∷ []) y → After p y
    front y d = record { at = λ z c. d.at z (Contains-append_left p (x ∷ []) z c) }

    -- an instance of the LSA of x that is newer than x
    same_last : (past : Option Past) → Keeps p past → (y : Observation A) → place_of x ≡ place_of y
        → instance_id_cmp (instance_id_of x.lsa) (instance_id_of y.lsa) ≡ Less → last_of past x ≡ older_than past y
    same_last None k y e l = refl
    same_last (Some f) k y e l =
        let w = k.held f refl in
        let at_true : is_of f x ≡ true → last_of (Some f) x ≡ older_than (Some f) y =
        λ (t : is_of f x ≡ true).
        let u : is_of f y ≡ true = ap (λ q. is_eq (place_cmp f.place q)) (sym e) ∙ t in
        let same : place_of w.1 ≡ place_of x = w.4.0 ∙ place_exact f.place (place_of x) (eq_true _ t) in
        let g : is_gt (instance_id_cmp (instance_id_of w.1.lsa) (instance_id_of x.lsa)) ≡ false =
        later_instance w.1 x (b.at w.1 (w.0, w.2, w.3)) same in
        let less : instance_id_cmp f.instance (instance_id_of y.lsa) ≡ Less =
        ap (λ i. instance_id_cmp i (instance_id_of y.lsa)) (sym w.4.1)
        ∙ less_too instance_id_cmp instance_id_total (instance_id_of w.1.lsa) (instance_id_of x.lsa) (instance_id_of y.lsa) l g in
        let v : is_eq (instance_id_cmp f.instance (instance_id_of y.lsa)) ≡ false = not_equal _ less in
        rw (t, u, v) refl in
        let at_false : is_of f x ≡ false → last_of (Some f) x ≡ older_than (Some f) y =
        λ (t : is_of f x ≡ false).
        let u : is_of f y ≡ false = ap (λ q. is_eq (place_cmp f.place q)) (sym e) ∙ t in
        rw (t, u) refl in
        elim (cases_Bool (is_of f x)) as (λ _. last_of (Some f) x ≡ older_than (Some f) y) [ inl t ↦ at_true t | inr t ↦ at_false t ]

    -- an observation of an LSA after that of x
    other_lsa : (past : Option Past) → Keeps p past → (y : Observation A) → place_cmp (place_of x) (place_of y) ≡ Less → older_than past y ≡ None
    other_lsa None k y l = refl
    other_lsa (Some f) k y l =
        let w = k.held f refl in
        let g : is_gt (place_cmp (place_of w.1) (place_of x)) ≡ false = later_place w.1 x (b.at w.1 (w.0, w.2, w.3)) in
        let less : place_cmp f.place (place_of y) ≡ Less =
        ap (λ q. place_cmp q (place_of y)) (sym w.4.0)
        ∙ less_too place_cmp place_total (place_of w.1) (place_of x) (place_of y) l g in
        let u : is_of f y ≡ false = not_equal _ less in
        rw u refl

    module _ (past : Option Past) (k : Keeps p past) (y : Observation A) (d : After (p ++ x ∷ []) y) (moment : Option ℕ) where
      abbrev IsKnown : Type 0
      IsKnown = is_before moment (older_than (Some (past_with past x)) y) ≡ shown (p ++ x ∷ []) moment y

      not_above : is_gt (age_cmp x y) ≡ false
      not_above = d.at x (Contains-push p x)

      same_instance : is_eq (place_cmp (place_of x) (place_of y)) ≡ true
          → is_eq (instance_id_cmp (instance_id_of x.lsa) (instance_id_of y.lsa)) ≡ true → IsKnown
      same_instance t u =
          let e = place_exact (place_of x) (place_of y) (eq_true _ t) in
          let none : shows moment y x ≡ false = no_second _ _ (began_after moment x) (not_less _ u) in
          rw (t, u) (k.known x b moment ∙ shown_same p x y moment e (eq_true _ u)
          ∙ sym (grown p x y moment ∙ or_none (shown p moment y) (shows moment y x) none))

      newer_instance : is_eq (place_cmp (place_of x) (place_of y)) ≡ true
          → is_eq (instance_id_cmp (instance_id_of x.lsa) (instance_id_of y.lsa)) ≡ false → IsKnown
      newer_instance t u =
          let e = place_exact (place_of x) (place_of y) (eq_true _ t) in
          let l = less_from _ (later_instance x y not_above e) u in
          let before : is_before moment (last_of past x) ≡ shown p moment y =
          ap (is_before moment) (same_last past k y e l) ∙ k.known y (front y d) moment in
          let itself : is_before moment (began x) ≡ shows moment y x =
          before_began moment x.seen (age_of x.lsa) ∙ sym (both_first _ _ (began_after moment x) t (is_less _ l)) in
          rw (t, u) (before_later moment (last_of past x) (began x)
          ∙ or_same (is_before moment (last_of past x)) (shown p moment y) (is_before moment (began x)) (shows moment y x) before itself
          ∙ sym (grown p x y moment))

      later_lsa : is_eq (place_cmp (place_of x) (place_of y)) ≡ false → IsKnown
      later_lsa t =
          let l = less_from _ (later_place x y not_above) t in
          let before : shown p moment y ≡ false =
          sym (k.known y (front y d) moment) ∙ ap (is_before moment) (other_lsa past k y l) ∙ nothing_before moment in
          let itself : shows moment y x ≡ false = no_first _ _ (began_after moment x) t in
          rw t (nothing_before moment ∙ sym (grown p x y moment ∙ or_from (shown p moment y) (shows moment y x) before itself))

      known_after : IsKnown
      known_after =
          elim (cases_Bool (is_eq (place_cmp (place_of x) (place_of y)))) as (λ _. IsKnown) [
            | inl t ↦ elim (cases_Bool (is_eq (instance_id_cmp (instance_id_of x.lsa) (instance_id_of y.lsa)))) as (λ _. IsKnown) [
              | inl u ↦ same_instance t u
              | inr u ↦ newer_instance t u
            ]
            | inr t ↦ later_lsa t
          ]

    pub keeps : (past : Option Past) → Keeps p past → Keeps (p ++ x ∷ []) (Some (past_with past x))
    keeps past k = record {
      known = λ y d moment. known_after past k y d moment;
      held = λ f e. let same : past_with past x ≡ f = cc in
          Any-push (IsHeld f) p x (ap (λ (h : Past). h.place) same, ap (λ (h : Past). h.instance) same);
    }
