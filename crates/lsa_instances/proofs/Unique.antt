-- Two lists of the newest have the same LSAs, in the same order.
use Rattle.std.proofs.Common.{◌≡◌, ℕ, sym, subst, List, map, Bool, true, false}
use Rattle.std.specs.Prelude.{All}
use Rattle.std.specs.List.{Any}
use Rattle.std.specs.Ordering.{bool_cmp, is_gt, ordering_then}
use Rattle.std.specs.declared.cmp.Ordering.{Ordering}
use Rattle.std.specs.declared.cmp.Ordering.TheVariants.{Less}
use Rattle.std.proofs.lemmas.List.Elements.{All-contains, All-weaker}
use Rattle.lsa_instances.specs.declared.keeping.FlushedLsas.{FlushedLsas}
use Rattle.lsa_instances.specs.declared.place.Place.{Place}
use Rattle.lsa_instances.specs.declared.observation.Observation.{Observation}
use Rattle.lsa_instances.specs.Order.{place_cmp, place_of}
use Rattle.lsa_instances.specs.Newest.{AreNewest, IsCovered, IsNewest, IsNoNewer, is_flushed, place_and_bytes}
use Rattle.lsa_instances.proofs.Comparing.{tie}
use Rattle.lsa_instances.proofs.OrderLemmas.{instance_exact, instance_total, place_total}
use Rattle.lsa_instances.proofs.SameValuesLemmas.{same_values}

-- where neither stands before the other, both or none were flushed, and neither is newer
tied_flags : (a b : Bool) (r s : Ordering) → is_gt (ordering_then (bool_cmp b a) r) ≡ false → is_gt (ordering_then (bool_cmp a b) s) ≡ false
    → (is_gt r ≡ false) × (is_gt s ≡ false)
tied_flags true true r s g h = (g, h)
tied_flags false false r s g h = (g, h)
tied_flags true false r s g h = cc
tied_flags false true r s g h = cc

-- two observations of one LSA, each the newest, have the same bytes
same_bytes : {A : Type 0} (flushed : FlushedLsas) (reported : List (Observation A)) (x y : Observation A)
    → IsNewest flushed reported x → IsNewest flushed reported y → place_of x ≡ place_of y → x.lsa ≡ y.lsa
same_bytes flushed reported x y p q e =
    let y_not_before = All-contains (IsNoNewer flushed reported x) reported y p.unsurpassed q.among_reported (sym e) q.lasting in
    let x_not_before = All-contains (IsNoNewer flushed reported y) reported x q.unsurpassed p.among_reported e p.lasting in
    let r = tied_flags (is_flushed reported x) (is_flushed reported y) _ _ x_not_before y_not_before in
    instance_exact x.lsa y.lsa (tie _ _ (instance_total.antisymm x.lsa y.lsa) r.0 r.1)

abbrev Before : Place × List ℕ → Place × List ℕ → Type 0
Before v w = place_cmp v.0 w.0 ≡ Less

never_both : (v w : Place × List ℕ) → Before v w → Before w v → ⊥
never_both v w p q = let e = place_total.antisymm v.0 w.0 in absurd (cc)

module _ {A : Type 0} (flushed : FlushedLsas) (reported : List (Observation A)) where
  all_in : (a b : List (Observation A)) → AreNewest flushed reported a → AreNewest flushed reported b → All (λ x. Any (λ z. place_and_bytes z ≡ place_and_bytes x) b) a
  all_in a b m n = All-weaker (IsNewest flushed reported) (λ x. Any (λ z. place_and_bytes z ≡ place_and_bytes x) b) (λ x p.
      let w = All-contains (IsCovered flushed reported b) reported x n.whole p.among_reported p.lasting in
      let P : Observation A → Type 0 = λ z. IsNewest flushed reported z in
      let q = subst P w.3 (n.each w.0 w.1 w.2) in
      let e = same_bytes flushed reported w.1 x q p w.4 in
      (w.0, w.1, w.2, w.3, λ i. (w.4 i, e i))) a m.each

  pub only_newest : (a b : List (Observation A)) → AreNewest flushed reported a → AreNewest flushed reported b → map place_and_bytes a ≡ map place_and_bytes b
  only_newest a b m n = same_values place_and_bytes Before never_both a b m.order n.order (all_in a b m n) (all_in b a n m)
