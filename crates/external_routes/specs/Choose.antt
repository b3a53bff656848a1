-- The preferred entry of an AS boundary router, and the match of a forwarding address (RFC 2328, 16.4 and 16.4.1).
use Rattle.std.specs.Prelude.{ℕ, List, Bool, true, false, ◌&&◌, not, if◌then◌else◌, Option, ◌==◌, bit_and}
use Rattle.std.specs.List.{filter, list_any}
use Rattle.std.specs.Ordering.{nat_cmp, ordering_then}
use Rattle.std.specs.declared.cmp.Ordering.{Ordering}
use Rattle.lsa_codec.specs.Areas.{is_backbone}
use Rattle.lsa_codec.specs.declared.address.Addr.{Addr}
use Rattle.lsa_codec.specs.declared.address.RouterId.{RouterId}
use Rattle.lsa_codec.specs.Prefix.{Net, mask_of_len}
use Rattle.area_graph.specs.Least.{least}
use Rattle.best_ways.specs.declared.rank.PathType.{PathType}
use Rattle.best_ways.specs.declared.rank.PathType.TheVariants.{Intra, Inter, Ext1, Ext2}
use Rattle.area_routes.specs.Values.{EntryValue}
use Rattle.best_ways.specs.Values.{RouteValue}
use Rattle.area_routes.specs.declared.entry.EntryKind.{EntryKind}
use Rattle.area_routes.specs.declared.entry.EntryKind.TheVariants.{Border, AsbrIntra, AsbrInter}
use Rattle.area_routes.specs.Inter.{same_router}

-- ---- classes

abbrev pub is_intra : PathType → Bool
is_intra Intra = true
is_intra Inter = false
is_intra Ext1 = false
is_intra Ext2 = false

-- the kinds of entries of AS boundary routers: inside an area, and of another area
abbrev pub is_asbr_intra : EntryKind → Bool
is_asbr_intra Border = false
is_asbr_intra AsbrIntra = true
is_asbr_intra AsbrInter = false

abbrev pub is_asbr_kind : EntryKind → Bool
is_asbr_kind Border = false
is_asbr_kind AsbrIntra = true
is_asbr_kind AsbrInter = true

-- the class of an entry: 0 for an intra-area path through an area that is not the backbone, which is preferred, else 1
-- (16.4.1)
abbrev pub entry_class : EntryValue → ℕ
entry_class e = if is_asbr_intra e.kind && not (is_backbone e.area) then 0 else 1

-- the class of a route: 0 for an intra-area route where one of its areas is not the backbone, else 1 (16.4.1)
abbrev pub route_class : RouteValue → ℕ
route_class r = if is_intra r.kind && list_any (λ area. not (is_backbone area)) r.areas then 0 else 1

-- ---- the preferred entry

-- which of two entries is preferred: the one of the lesser class, then the one of less cost, then the one of the larger
-- Area ID (16.4.1)
abbrev pub preference : EntryValue → EntryValue → Ordering
preference a b = ordering_then (nat_cmp (entry_class a) (entry_class b)) (ordering_then (nat_cmp a.cost b.cost) (nat_cmp b.area.0 a.area.0))

-- an entry of this router as an AS boundary router
abbrev pub is_asbr : RouterId → EntryValue → Bool
is_asbr router e = is_asbr_kind e.kind && same_router e.router router

-- the preferred one of a router's entries as an AS boundary router
abbrev pub preferred : List EntryValue → RouterId → Option EntryValue
preferred entries asbr = least preference (filter (is_asbr asbr) entries)

-- ---- the match of a forwarding address

-- the prefix covers the address: with the bits past the prefix's length set to 0, the address is that of the prefix (11.1)
abbrev pub covers : Net → Addr → Bool
covers net addr = bit_and addr.0 (mask_of_len net.len) == net.addr.0

-- longer prefixes first
abbrev pub longer : RouteValue → RouteValue → Ordering
longer a b = nat_cmp b.net.len a.net.len

-- the route of the longest prefix that covers the address
abbrev pub forward_match : List RouteValue → Addr → Option RouteValue
forward_match routes addr = least longer (filter (λ r. covers r.net addr) routes)
