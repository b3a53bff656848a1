-- The newest instance that is shown of each LSA, with one more that is shown.
use Rattle.std.proofs.Common.{◌≡◌, Bool, true, false, List, [], ◌∷◌, ◌++◌, Option, Some, None, refl, sym, ap, subst, ◌∙◌}
use Rattle.std.specs.Prelude.{not, ◌&&◌, ◌||◌, is_some, if◌then◌else◌}
use Rattle.std.specs.BTreeMap.{BTreeMap, get, Updates}
use Rattle.std.specs.List.{list_all, list_any}
use Rattle.std.specs.Ordering.{eq_by_cmp, is_gt, is_lt, ordering_reverse}
use Rattle.std.specs.declared.cmp.Ordering.{Ordering}
use Rattle.std.specs.declared.cmp.Ordering.TheVariants.{Less, Equal, Greater}
use Rattle.std.proofs.lemmas.List.Folds.{list_all-append, list_any-append}
use Rattle.lsa_instances.specs.declared.header.InstanceId.{InstanceId}
use Rattle.lsa_instances.specs.declared.place.Place.{Place}
use Rattle.lsa_instances.specs.Instance.{instance_id_cmp}
use Rattle.lsa_instances.specs.Order.{place_cmp}
use Rattle.lsa_instances.proofs.OrderLemmas.{instance_id_total, place_exact}
use Rattle.capture_report.specs.Newer.{Instance, is_other_or_older, is_same_lsa}
use Rattle.capture_report.specs.steps.Newest.{AreNewest, is_over, newest_with}
use Rattle.capture_report.specs.steps.PlaceOrder.{derived_cmp}
use Rattle.capture_report.proofs.PlaceOrder.{same_cmp}
use Rattle.capture_report.proofs.Members.{eq_true}

pub or_true : (a : Bool) → (a || true) ≡ true
or_true true = refl
or_true false = refl

pub or_false : (a : Bool) → (a || false) ≡ a
or_false true = refl
or_false false = refl

pub and_true : (a : Bool) → (a && true) ≡ a
and_true true = refl
and_true false = refl

pub and_false : (a : Bool) → (a && false) ≡ false
and_false true = refl
and_false false = refl

-- ---- of two instances the newer one

less : (o : Ordering) → is_lt o ≡ true → o ≡ Less
less Less h = refl
less Equal h = cc
less Greater h = cc

greater : (o : Ordering) → is_gt o ≡ true → o ≡ Greater
greater Greater h = refl
greater Less h = cc
greater Equal h = cc

-- what is older than an older one
older_still : (known instance other : InstanceId) → instance_id_cmp known instance ≡ Greater → instance_id_cmp known other ≡ Less
    → instance_id_cmp instance other ≡ Less
older_still known instance other h k = instance_id_total.trans instance known other (instance_id_total.antisymm instance known ∙ ap ordering_reverse h) k

-- at a newer one, or at the same
up_to : (known instance other : InstanceId) → is_gt (instance_id_cmp known instance) ≡ false → instance_id_cmp instance other ≡ Less
    → instance_id_cmp known other ≡ Less
up_to known instance other h k = by (instance_id_cmp known instance) refl h
  where
    by : (o : Ordering) → instance_id_cmp known instance ≡ o → is_gt o ≡ false → instance_id_cmp known other ≡ Less
    by Less e f = instance_id_total.trans known instance other e k
    by Equal e f = instance_id_total.congr known instance other e ∙ k
    by Greater e f = cc

-- the newer of two is older than what both are older than
newer_of_two : (known instance other : InstanceId)
    → is_lt (instance_id_cmp (if is_gt (instance_id_cmp known instance) then known else instance) other)
    ≡ (is_lt (instance_id_cmp known other) && is_lt (instance_id_cmp instance other))
newer_of_two known instance other = by (is_gt (instance_id_cmp known instance)) refl
  where
    first : (b : Bool) → is_lt (instance_id_cmp known other) ≡ b → is_gt (instance_id_cmp known instance) ≡ true
        → b ≡ (b && is_lt (instance_id_cmp instance other))
    first false e h = refl
    first true e h = sym (ap is_lt (older_still known instance other (greater _ h) (less _ e)))

    second : (b : Bool) → is_lt (instance_id_cmp instance other) ≡ b → is_gt (instance_id_cmp known instance) ≡ false
        → b ≡ (is_lt (instance_id_cmp known other) && b)
    second false e h = sym (and_false (is_lt (instance_id_cmp known other)))
    second true e h = sym (ap (λ o. is_lt o && true) (up_to known instance other h (less _ e)))

    by : (b : Bool) → is_gt (instance_id_cmp known instance) ≡ b
        → is_lt (instance_id_cmp (if b then known else instance) other) ≡ (is_lt (instance_id_cmp known other) && is_lt (instance_id_cmp instance other))
    by true h = first (is_lt (instance_id_cmp known other)) refl h
    by false h = second (is_lt (instance_id_cmp instance other)) refl h

over_both : (known : Option InstanceId) (instance other : InstanceId)
    → is_over (Some (newest_with known instance)) other ≡ (is_over known other && is_lt (instance_id_cmp instance other))
over_both None instance other = refl
over_both (Some known) instance other = newer_of_two known instance other

-- ---- the same LSA

exact : (a b : Place) → eq_by_cmp place_cmp a b ≡ true → a ≡ b
exact a b h = place_exact a b (eq_true (place_cmp a b) h)

flip : (a b : Place) → eq_by_cmp place_cmp a b ≡ eq_by_cmp place_cmp b a
flip a b = by (eq_by_cmp place_cmp a b) (eq_by_cmp place_cmp b a) refl refl
  where
    swapped : a ≡ b → eq_by_cmp place_cmp a b ≡ eq_by_cmp place_cmp b a
    swapped e = λ i. eq_by_cmp place_cmp (e i) (sym e i)

    by : (x y : Bool) → eq_by_cmp place_cmp a b ≡ x → eq_by_cmp place_cmp b a ≡ y → x ≡ y
    by true true h k = refl
    by false false h k = refl
    by true false h k = sym h ∙ swapped (exact a b h) ∙ k
    by false true h k = sym h ∙ swapped (sym (exact b a k)) ∙ k

-- ---- one more

module _ (shown : List Instance) (old new : BTreeMap Place InstanceId) (one : Instance) (known : AreNewest shown old)
    (put : Updates place_cmp old new one.0 (Some (newest_with (get place_cmp old one.0) one.1))) where
  -- whether an instance of an LSA is shown, and what is newer than all that are shown
  abbrev IsReported : Place → Type 0
  IsReported lsa =
      (is_some (get place_cmp new lsa) ≡ list_any (is_same_lsa lsa) (shown ++ one ∷ []))
      × ((instance : InstanceId) → is_over (get place_cmp new lsa) instance ≡ list_all (is_other_or_older lsa instance) (shown ++ one ∷ []))

  -- of this LSA
  here : eq_by_cmp place_cmp one.0 one.0 ≡ true → IsReported one.0
  here self = (
    ap is_some put.1
        ∙ sym (or_true (list_any (is_same_lsa one.0) shown))
        ∙ sym (ap (λ b. list_any (is_same_lsa one.0) shown || (b || false)) self)
        ∙ sym (list_any-append (is_same_lsa one.0) shown (one ∷ [])),
    λ instance.
        ap (λ o. is_over o instance) put.1
        ∙ over_both (get place_cmp old one.0) one.1 instance
        ∙ ap (λ b. b && is_lt (instance_id_cmp one.1 instance)) (known.over one.0 instance)
        ∙ sym (ap (λ b. list_all (is_other_or_older one.0 instance) shown && b) (and_true (is_lt (instance_id_cmp one.1 instance))))
        ∙ sym (ap (λ b. list_all (is_other_or_older one.0 instance) shown && ((not b || is_lt (instance_id_cmp one.1 instance)) && true)) self)
        ∙ sym (list_all-append (is_other_or_older one.0 instance) shown (one ∷ [])),
  )

  -- of another
  other : (lsa : Place) → eq_by_cmp place_cmp one.0 lsa ≡ false → IsReported lsa
  other lsa apart =
      let away : eq_by_cmp place_cmp lsa one.0 ≡ false = flip lsa one.0 ∙ apart in (
        ap is_some (put.2 lsa apart)
            ∙ known.which lsa
            ∙ sym (or_false (list_any (is_same_lsa lsa) shown))
            ∙ sym (ap (λ b. list_any (is_same_lsa lsa) shown || (b || false)) away)
            ∙ sym (list_any-append (is_same_lsa lsa) shown (one ∷ [])),
        λ instance.
            ap (λ o. is_over o instance) (put.2 lsa apart)
            ∙ known.over lsa instance
            ∙ sym (and_true (list_all (is_other_or_older lsa instance) shown))
            ∙ sym (ap (λ b. list_all (is_other_or_older lsa instance) shown && ((not b || is_lt (instance_id_cmp one.1 instance)) && true)) away)
            ∙ sym (list_all-append (is_other_or_older lsa instance) shown (one ∷ [])),
      )

  reported : (lsa : Place) → IsReported lsa
  reported lsa = by (eq_by_cmp place_cmp one.0 lsa) refl
    where
      by : (b : Bool) → eq_by_cmp place_cmp one.0 lsa ≡ b → IsReported lsa
      by true h =
          let same = exact one.0 lsa h in
          subst (λ l. IsReported l) same (here (subst (λ l. eq_by_cmp place_cmp one.0 l ≡ true) (sym same) h))
      by false h = other lsa h

  one_more : AreNewest (shown ++ one ∷ []) new
  one_more = record { which = λ lsa. let t = reported lsa in t.0; over = λ lsa instance. let t = reported lsa in t.1 instance }

-- the same of maps in the derived order
pub one_more_derived : (shown : List Instance) (old new : BTreeMap Place InstanceId) (one : Instance) → AreNewest shown old
    → Updates derived_cmp old new one.0 (Some (newest_with (get derived_cmp old one.0) one.1)) → AreNewest (shown ++ one ∷ []) new
one_more_derived shown old new one known put =
    let P : (Place → Place → Ordering) → Type 0 = λ cmp. Updates cmp old new one.0 (Some (newest_with (get cmp old one.0) one.1)) in
    one_more shown old new one known (subst P same_cmp put)
