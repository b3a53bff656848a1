-- What LSAs are found by in the indexes of slots: keys, Advertising Routers, and these with prefixes.
use Rattle.std.specs.Prelude.{ℕ, List, Option, Some, option_map}
use Rattle.std.specs.Ordering.{nat_cmp, ordering_then}
use Rattle.std.specs.declared.cmp.Ordering.{Ordering}
use Rattle.std.proofs.lemmas.Map.Lookups.{CmpEqualImpliesEq, exact_unsigned}
use Rattle.lsa_codec.specs.declared.address.RouterId.{RouterId}
use Rattle.lsa_codec.specs.declared.key.Key.{Key}
use Rattle.lsa_codec.specs.Key.{key_of}
use Rattle.lsa_codec.specs.Order.{router_cmp}
use Rattle.lsa_codec.proofs.OrderLemmas.{router_exact, then_both}
use Rattle.lsdb.specs.declared.origin.Origin.{Origin}
use Rattle.lsdb.specs.PrefixSlots.{origin_of, prefix_of}
use Rattle.lsdb.specs.RouterSlots.{router_of}

abbrev pub own_key : List ℕ → Option Key
own_key lsa = Some (key_of lsa)

abbrev pub own_router : List ℕ → Option RouterId
own_router lsa = Some (router_of lsa)

-- those without a prefix have none
abbrev pub own_origin : List ℕ → Option Origin
own_origin lsa = option_map (origin_of (router_of lsa)) (prefix_of lsa)

-- by router, then by address, then by length
abbrev pub origin_cmp : Origin → Origin → Ordering
origin_cmp a b = ordering_then (router_cmp a.adv b.adv) (ordering_then (nat_cmp a.network.0 b.network.0) (nat_cmp a.mask_length b.mask_length))

pub origin_exact : CmpEqualImpliesEq origin_cmp
origin_exact a b h =
    let routers = then_both (router_cmp a.adv b.adv) _ h in
    let nets = then_both (nat_cmp a.network.0 b.network.0) (nat_cmp a.mask_length b.mask_length) routers.1 in
    λ i. record {
      adv = router_exact a.adv b.adv routers.0 i;
      network = record { 0 = exact_unsigned a.network.0 b.network.0 nets.0 i };
      mask_length = exact_unsigned a.mask_length b.mask_length nets.1 i;
    }
