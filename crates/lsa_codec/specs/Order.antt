-- The orders of Router IDs, Area IDs, prefixes and keys.
use Rattle.std.specs.Ordering.{nat_cmp, ordering_then}
use Rattle.std.specs.declared.cmp.Ordering.{Ordering}
use Rattle.lsa_codec.specs.declared.address.AreaId.{AreaId}
use Rattle.lsa_codec.specs.declared.address.RouterId.{RouterId}
use Rattle.lsa_codec.specs.declared.key.Key.{Key}
use Rattle.lsa_codec.specs.Prefix.{Net}

abbrev pub area_cmp : AreaId → AreaId → Ordering
area_cmp a b = nat_cmp a.0 b.0

abbrev pub router_cmp : RouterId → RouterId → Ordering
router_cmp a b = nat_cmp a.0 b.0

-- by address, then by length
abbrev pub prefix_cmp : Net → Net → Ordering
prefix_cmp a b = ordering_then (nat_cmp a.addr.0 b.addr.0) (nat_cmp a.len b.len)

-- by LS type, then by Link State ID, then by Advertising Router
abbrev pub key_cmp : Key → Key → Ordering
key_cmp a b = ordering_then (nat_cmp a.kind b.kind) (ordering_then (nat_cmp a.id.0 b.id.0) (nat_cmp a.adv.0 b.adv.0))
