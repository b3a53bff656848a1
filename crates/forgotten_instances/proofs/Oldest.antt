-- Of each LSA an observation of the oldest instance is left.
use Rattle.std.proofs.Common.{◌≡◌, suc, ◌⊎◌, refl, sym, ◌∙◌, ap, subst, inl, inr, List}
use Rattle.std.proofs.Common.{[], ◌∷◌, true, false, not, None, if◌then◌else◌, arith}
use Rattle.std.specs.Prelude.{All, Contains}
use Rattle.std.specs.List.{Any}
use Rattle.std.specs.Ordering.{is_eq, is_lt}
use Rattle.std.specs.declared.cmp.Ordering.{Ordering}
use Rattle.std.specs.declared.cmp.Ordering.TheVariants.{Less, Equal, Greater}
use Rattle.std.proofs.lemmas.Bool.{and_from, and_parts, both_ways, cases_Bool, false_from_ne_true, not_from_false}
use Rattle.std.proofs.lemmas.Cmp.{tied_itself}
use Rattle.std.proofs.lemmas.List.Elements.{All-contains_itself, All-weaker}
use Rattle.std.proofs.lemmas.List.Folds.{Any-from_list_any}
use Rattle.lsa_codec.specs.Fields.{age_of}
use Rattle.lsa_instances.specs.declared.observation.Observation.{Observation}
use Rattle.lsa_instances.specs.Instance.{instance_id_cmp, instance_id_of}
use Rattle.lsa_instances.specs.Newest.{began_after, is_after}
use Rattle.lsa_instances.specs.Order.{place_cmp, place_of}
use Rattle.lsa_instances.proofs.OrderLemmas.{instance_id_total, place_exact, place_total}
use Rattle.forgotten_instances.specs.Forgotten.{forgets, is_forgotten, is_older, remembered}
use Rattle.forgotten_instances.proofs.Walked.{eq_true}
use Rattle.forgotten_instances.proofs.LeftOver.{contains_cons, kept}

lt_true : (o : Ordering) → is_lt o ≡ true → o ≡ Less
lt_true Less h = refl
lt_true Equal h = cc
lt_true Greater h = cc

module _ {A : Type 0} where
  older_parts : (y x : Observation A) → is_older y x ≡ true
      → (place_of y ≡ place_of x) × (instance_id_cmp (instance_id_of y.lsa) (instance_id_of x.lsa) ≡ Less)
  older_parts y x h =
      let t = and_parts (is_eq (place_cmp (place_of y) (place_of x))) (is_lt (instance_id_cmp (instance_id_of y.lsa) (instance_id_of x.lsa))) h in
      (place_exact (place_of y) (place_of x) (eq_true _ t.0), lt_true _ t.1)

  older_too : (z y x : Observation A) → is_older z y ≡ true → is_older y x ≡ true → is_older z x ≡ true
  older_too z y x h i =
      let a = older_parts z y h in
      let b = older_parts y x i in
      let same : is_eq (place_cmp (place_of z) (place_of x)) ≡ true =
      ap (λ p. is_eq (place_cmp p (place_of x))) (a.0 ∙ b.0) ∙ ap is_eq (tied_itself place_total (place_of x)) in
      and_from _ _ same (ap is_lt (instance_id_total.trans (instance_id_of z.lsa) (instance_id_of y.lsa) (instance_id_of x.lsa) a.1 b.1))

  not_older_too : (z y x : Observation A) → is_older y x ≡ true → is_older z x ≡ false → is_older z y ≡ false
  not_older_too z y x i n = false_from_ne_true _ (λ h. both_ways (is_older z x) n (older_too z y x h i))

  not_itself : (x : Observation A) → is_older x x ≡ false
  not_itself x = false_from_ne_true _
      (λ h. both_ways (is_lt (instance_id_cmp (instance_id_of x.lsa) (instance_id_of x.lsa))) (ap is_lt (tied_itself instance_id_total (instance_id_of x.lsa)))
      (ap is_lt (older_parts x x h).1))

  -- an observation of the oldest instance of the LSA of x
  abbrev older_one : Observation A → Observation A → Observation A
  older_one x y = if is_older y x then y else x

  abbrev oldest : List (Observation A) → Observation A → Observation A
  oldest [] x = x
  oldest (y ∷ ys) x = oldest ys (older_one x y)

  by_cases : (P : Observation A → Type 0) (x y : Observation A) → (is_older y x ≡ true → P y) → (is_older y x ≡ false → P x) → P (older_one x y)
  by_cases P x y f g = elim (cases_Bool (is_older y x)) as (λ _. P (older_one x y)) [ inl t ↦ rw t (f t) | inr t ↦ rw t (g t) ]

  same_place : (xs : List (Observation A)) (x : Observation A) → place_of (oldest xs x) ≡ place_of x
  same_place [] x = refl
  same_place (y ∷ ys) x = same_place ys (older_one x y) ∙ by_cases (λ z. place_of z ≡ place_of x) x y (λ t. (older_parts y x t).0) (λ t. refl)

  stays : (xs : List (Observation A)) (x z : Observation A) → is_older z x ≡ false → is_older z (oldest xs x) ≡ false
  stays [] x z n = n
  stays (y ∷ ys) x z n = stays ys (older_one x y) z (by_cases (λ w. is_older z w ≡ false) x y (λ t. not_older_too z y x t n) (λ t. n))

  none_older : (xs : List (Observation A)) (x z : Observation A) → Contains xs z → is_older z (oldest xs x) ≡ false
  none_older [] x z c = absurd (omega (arith, c.1))
  none_older (y ∷ ys) x z c =
      elim (contains_cons y ys c.0 z c.1 c.2) as (λ _. is_older z (oldest ys (older_one x y)) ≡ false) [
        | inl same ↦ ap (λ w. is_older w (oldest ys (older_one x y))) (sym same)
            ∙ stays ys (older_one x y) y (by_cases (λ w. is_older y w ≡ false) x y (λ t. not_itself y) (λ t. t))
        | inr d ↦ none_older ys (older_one x y) z d
      ]

  is_one : (xs : List (Observation A)) (x : Observation A) → (oldest xs x ≡ x) ⊎ Contains xs (oldest xs x)
  is_one [] x = inl refl
  is_one (y ∷ ys) x =
      elim (is_one ys (older_one x y)) as (λ _. (oldest ys (older_one x y) ≡ x) ⊎ Contains (y ∷ ys) (oldest ys (older_one x y))) [
        | inl same ↦
            let r : Observation A = oldest ys (older_one x y) in
            let P : Observation A → Type 0 = λ w. r ≡ w → (r ≡ x) ⊎ Contains (y ∷ ys) r in
            by_cases P x y (λ t e. inr (0, omega arith, sym e)) (λ t e. inl e) same
        | inr c ↦ inr (suc c.0, omega (arith, c.1), c.2)
      ]

  module _ (reported : List (Observation A)) where
    not_forgotten : (x : Observation A) → is_forgotten reported (oldest reported x) ≡ false
    not_forgotten x = false_from_ne_true _ (λ h.
        let r : Observation A = oldest reported x in
        let a = Any-from_list_any (λ y. forgets y r) reported h in
        let older = (and_parts (is_older a.1 r) (began_after r.seen a.1) a.4).0 in
        both_ways (is_older a.1 r) (none_older reported x a.1 (a.0, a.2, a.3)) older)

    left_one : (y : Observation A) → Contains reported y → Any (λ x. place_of x ≡ place_of y) (remembered reported)
    left_one y c =
        let r : Observation A = oldest reported y in
        let there : Contains reported r = elim (is_one reported y) as (λ _. Contains reported r) [
          | inl same ↦ subst (λ w. Contains reported w) (sym same) c
          | inr d ↦ d
        ] in
        let k = kept (λ x. not (is_forgotten reported x)) reported r there (not_from_false _ (not_forgotten y)) in
        (k.0, r, k.1, k.2, same_place reported y)

    pub each_left : All (λ y. Any (λ x. place_of x ≡ place_of y) (remembered reported)) reported
    each_left =
        All-weaker (Contains reported) (λ y. Any (λ x. place_of x ≡ place_of y) (remembered reported)) left_one reported
        (All-contains_itself reported)

    pub untimed_left : (x : Observation A) → x.seen ≡ None → is_forgotten reported x ≡ false
    untimed_left x e = false_from_ne_true _ (λ h.
        let a = Any-from_list_any (λ y. forgets y x) reported h in
        let began = (and_parts (is_older a.1 x) (began_after x.seen a.1) a.4).1 in
        both_ways (began_after x.seen a.1) (ap (λ s. is_after s a.1.seen (age_of a.1.lsa)) e) began)
