-- For callers: the orders of this crate are total, and distinguish all values.
use Rattle.std.proofs.Common.{◌≡◌, refl, ap}
use Rattle.std.specs.Cmp.{IsTotalOrder}
use Rattle.std.specs.Ordering.{nat_cmp, ordering_then}
use Rattle.std.specs.declared.cmp.Ordering.{Ordering}
use Rattle.std.specs.declared.cmp.Ordering.TheVariants.{Less, Equal, Greater}
use Rattle.std.proofs.lemmas.Cmp.{nat_cmp_total, on_total, then_total}
use Rattle.std.proofs.lemmas.Map.Lookups.{CmpEqualImpliesEq, exact_unsigned}
use Rattle.lsa_codec.specs.Order.{area_cmp, router_cmp, prefix_cmp, key_cmp}

pub area_total : IsTotalOrder area_cmp
area_total = on_total (λ a. a.0) nat_cmp_total

pub area_exact : CmpEqualImpliesEq area_cmp
area_exact a b h = ap (λ n. record { 0 = n }) (exact_unsigned a.0 b.0 h)

pub router_total : IsTotalOrder router_cmp
router_total = on_total (λ a. a.0) nat_cmp_total

pub router_exact : CmpEqualImpliesEq router_cmp
router_exact a b h = ap (λ n. record { 0 = n }) (exact_unsigned a.0 b.0 h)

-- an order by one thing and then by another finds no difference only where both find none
pub then_both : (r s : Ordering) → ordering_then r s ≡ Equal → (r ≡ Equal) × (s ≡ Equal)
then_both Less s h = cc
then_both Equal s h = (refl, h)
then_both Greater s h = cc

pub prefix_total : IsTotalOrder prefix_cmp
prefix_total = then_total (on_total (λ p. p.addr.0) nat_cmp_total) (on_total (λ p. p.len) nat_cmp_total)

pub prefix_exact : CmpEqualImpliesEq prefix_cmp
prefix_exact a b h =
    let same = then_both (nat_cmp a.addr.0 b.addr.0) (nat_cmp a.len b.len) h in
    λ i. record { addr = record { 0 = exact_unsigned a.addr.0 b.addr.0 same.0 i }; len = exact_unsigned a.len b.len same.1 i }

pub key_total : IsTotalOrder key_cmp
key_total =
    then_total (on_total (λ k. k.kind) nat_cmp_total)
    (then_total (on_total (λ k. k.id.0) nat_cmp_total) (on_total (λ k. k.adv.0) nat_cmp_total))

pub key_exact : CmpEqualImpliesEq key_cmp
key_exact a b h =
    let kinds = then_both (nat_cmp a.kind b.kind) _ h in
    let names = then_both (nat_cmp a.id.0 b.id.0) (nat_cmp a.adv.0 b.adv.0) kinds.1 in
    λ i. record {
      kind = exact_unsigned a.kind b.kind kinds.0 i;
      id = record { 0 = exact_unsigned a.id.0 b.id.0 names.0 i };
      adv = record { 0 = exact_unsigned a.adv.0 b.adv.0 names.1 i };
    }
