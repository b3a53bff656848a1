-- For callers too: the orders of this crate are total, and only equal values compare as equal.
use Rattle.std.proofs.Common.{◌≡◌, ℕ, refl, ap, List}
use Rattle.std.specs.Cmp.{IsTotalOrder}
use Rattle.std.specs.Cmp.Lexicographic.{slice_cmp}
use Rattle.std.specs.Ordering.{nat_cmp, bool_cmp}
use Rattle.std.specs.declared.cmp.Ordering.TheVariants.{Equal}
use Rattle.std.proofs.lemmas.Cmp.{nat_cmp_total, nat_list_cmp_total, on_total, then_total, back_total}
use Rattle.std.specs.Cmp.{bool_cmp_total}
use Rattle.std.proofs.lemmas.Map.Lookups.{exact_unsigned, exact_bytes}
use Rattle.lsa_codec.specs.declared.address.AreaId.{AreaId}
use Rattle.lsa_codec.specs.Key.{is_at_max_age}
use Rattle.lsa_codec.specs.Order.{key_cmp}
use Rattle.lsa_codec.proofs.OrderLemmas.{key_exact, key_total, then_both}
use Rattle.lsa_instances.specs.declared.header.InstanceId.{InstanceId}
use Rattle.lsa_instances.specs.declared.place.Place.{Place}
use Rattle.lsa_instances.specs.declared.place.Scope.{Scope}
use Rattle.lsa_instances.specs.declared.place.Scope.TheVariants.{Area, AsWide}
use Rattle.lsa_instances.specs.declared.observation.Observation.{Observation}
use Rattle.lsa_instances.specs.Instance.{instance_cmp, instance_id_cmp, instance_id_of, seconds_of, signed}
use Rattle.lsa_instances.specs.Order.{scope_number, area_of, scope_cmp, place_cmp, place_of}
use Rattle.lsa_instances.specs.steps.ObservationOrder.{observation_cmp}

pub instance_id_total : IsTotalOrder instance_id_cmp
instance_id_total = then_total (on_total (λ (i : InstanceId). signed i.sequence) nat_cmp_total) (on_total (λ (i : InstanceId). i.checksum) nat_cmp_total)

pub instance_total : IsTotalOrder instance_cmp
instance_total =
    then_total (on_total instance_id_of instance_id_total)
    (then_total (on_total is_at_max_age bool_cmp_total)
    (then_total (back_total (on_total seconds_of nat_cmp_total)) nat_list_cmp_total))

pub instance_exact : (a b : List ℕ) → instance_cmp a b ≡ Equal → a ≡ b
instance_exact a b h =
    let p = then_both (instance_id_cmp (instance_id_of a) (instance_id_of b)) _ h in
    let q = then_both (bool_cmp (is_at_max_age a) (is_at_max_age b)) _ p.1 in
    let r = then_both (nat_cmp (seconds_of b) (seconds_of a)) (slice_cmp nat_cmp a b) q.1 in
    exact_bytes a b r.1

pub scope_total : IsTotalOrder scope_cmp
scope_total = then_total (on_total scope_number nat_cmp_total) (on_total area_of nat_cmp_total)

pub scope_exact : (a b : Scope) → scope_cmp a b ≡ Equal → a ≡ b
scope_exact (Area a) (Area b) h =
    ap (λ (n : ℕ). let id : AreaId = record { 0 = n } in Area id) (exact_unsigned a.0 b.0 h)
scope_exact AsWide AsWide h = refl
scope_exact (Area a) AsWide h = cc
scope_exact AsWide (Area b) h = cc

pub place_total : IsTotalOrder place_cmp
place_total = then_total (on_total (λ (p : Place). p.scope) scope_total) (on_total (λ (p : Place). p.key) key_total)

pub place_exact : (a b : Place) → place_cmp a b ≡ Equal → a ≡ b
place_exact a b h =
    let p = then_both (scope_cmp a.scope b.scope) (key_cmp a.key b.key) h in
    λ i. record { scope = scope_exact a.scope b.scope p.0 i; key = key_exact a.key b.key p.1 i }

newest_first : {A : Type 0} → IsTotalOrder (λ (x y : Observation A). instance_cmp y.lsa x.lsa)
newest_first {A} = back_total (on_total (λ (x : Observation A). x.lsa) instance_total)

pub observation_total : {A : Type 0} → IsTotalOrder (observation_cmp {A = A})
observation_total {A} = then_total (on_total (λ (x : Observation A). place_of x) place_total) (newest_first {A = A})
