-- The order of hops is total, and agrees with equality.
use Rattle.std.proofs.Common.{◌≡◌, ℕ, refl, sym, ap, ◌∙◌, arith}
use Rattle.std.specs.Cmp.{IsTotalOrder}
use Rattle.std.specs.Ordering.{nat_cmp, ordering_then}
use Rattle.std.specs.declared.cmp.Ordering.{Ordering}
use Rattle.std.specs.declared.cmp.Ordering.TheVariants.{Less, Equal, Greater}
use Rattle.std.proofs.lemmas.Cmp.{nat_cmp_total, on_total, then_total, ranked}
use Rattle.lsa_codec.specs.declared.address.Addr.{Addr}
use Rattle.next_hops.specs.declared.hop.Hop.{Hop}
use Rattle.next_hops.specs.declared.hop.Hop.TheVariants.{Connected, Link, Attached, Gateway}
use Rattle.next_hops.specs.Hop.{kind_of, interface_of, gateway_of, hop_cmp}

pub hop_cmp_total : IsTotalOrder hop_cmp
hop_cmp_total = then_total (on_total kind_of nat_cmp_total) (then_total (on_total interface_of nat_cmp_total) (on_total gateway_of nat_cmp_total))

equal_parts : (a b : Ordering) → ordering_then a b ≡ Equal → (a ≡ Equal) × (b ≡ Equal)
equal_parts Less b h = absurd (cc)
equal_parts Equal b h = (refl, h)
equal_parts Greater b h = absurd (cc)

same_number : (x y : ℕ) → nat_cmp x y ≡ Equal → x ≡ y
same_number x y h = ranked x y Equal (sym h)

pub same_addr : (a b : Addr) → a.0 ≡ b.0 → a ≡ b
same_addr a b h = ap (λ (n : ℕ). let x : Addr = record { 0 = n } in x) h

same_parts : (g h : Hop) → kind_of g ≡ kind_of h → interface_of g ≡ interface_of h → gateway_of g ≡ gateway_of h → g ≡ h
same_parts Connected Connected k i a = refl
same_parts (Link d) (Link e) k i a = ap (λ (x : Addr). Link x) (same_addr d e i)
same_parts (Attached d) (Attached e) k i a = ap (λ (x : Addr). Attached x) (same_addr d e i)
same_parts (Gateway d b) (Gateway e f) k i a = ap (λ (x : Addr). Gateway x b) (same_addr d e i) ∙ ap (λ (x : Addr). Gateway e x) (same_addr b f a)
same_parts _ _ k i a = absurd (omega arith)

-- hops of which neither comes before the other are equal
pub same_hop : (g h : Hop) → hop_cmp g h ≡ Equal → g ≡ h
same_hop g h e =
    let kind = equal_parts (nat_cmp (kind_of g) (kind_of h))
    (ordering_then (nat_cmp (interface_of g) (interface_of h)) (nat_cmp (gateway_of g) (gateway_of h))) e in
    let rest = equal_parts (nat_cmp (interface_of g) (interface_of h)) (nat_cmp (gateway_of g) (gateway_of h)) kind.1 in
    same_parts g h (same_number (kind_of g) (kind_of h) kind.0) (same_number (interface_of g) (interface_of h) rest.0)
    (same_number (gateway_of g) (gateway_of h) rest.1)
