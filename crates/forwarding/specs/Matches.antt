-- What a router does with packets for an address: the entry of the longest prefix that covers it (RFC 2328, 11.1).
use Rattle.std.specs.Prelude.{◌≡◌, ◌<◌, ◌≤◌, ℕ, zero, suc, Bool, true, false, ◌&&◌, not, if◌then◌else◌, List, [], Option, None, Some, MatchOption}
use Rattle.std.specs.List.{list_any}
use Rattle.std.specs.Option.{option_map, option_map_or, option_or}
use Rattle.std.specs.Ordering.{eq_by_cmp}
use Rattle.lsa_codec.specs.Order.{prefix_cmp}
use Rattle.lsa_codec.specs.Prefix.{Net, masked}
use Rattle.lsa_codec.specs.declared.address.Addr.{Addr}
use Rattle.lsa_codec.specs.declared.address.RouterId.{RouterId}
use Rattle.lsdb.specs.Lists.{Lists}
use Rattle.next_hops.specs.declared.hop.Hop.{Hop}
use Rattle.next_hops.specs.declared.hop.Hop.TheVariants.{Connected, Link, Attached, Gateway}
use Rattle.best_ways.specs.Routes.{route_to}
use Rattle.best_ways.specs.Values.{RouteValue}
use Rattle.best_ways.specs.declared.rank.PathType.{PathType}
use Rattle.best_ways.specs.declared.rank.PathType.TheVariants.{Intra, Inter, Ext1, Ext2}
use Rattle.routing_table.specs.Tables.{table_in}
use Rattle.forwarding.specs.OwnExternals.{own_externals}
use Rattle.hop_ends.specs.Ways.{ways_of}
use Rattle.hop_ends.specs.declared.way.Way.{Way}

-- an entry: its prefix, whether that is an external prefix of the router's own, and the ways of its route
pub record MatchValue : Type 0 where
  pub net : Net
  pub is_own : Bool
  pub ways : List Way

-- what a router's entries come from: the routes of its table, and the prefixes of its own AS-external-LSAs
pub record RouterValue : Type 0 where
  pub router : RouterId
  pub routes : List RouteValue
  pub own : List Net

-- ---- entries

abbrev pub is_intra : PathType → Bool
is_intra Intra = true
is_intra Inter = false
is_intra Ext1 = false
is_intra Ext2 = false

-- a hop to a network of the router itself
abbrev pub is_own_hop : Hop → Bool
is_own_hop Connected = true
is_own_hop (Link interface) = false
is_own_hop (Attached interface) = true
is_own_hop (Gateway interface address) = false

-- a route to a network of the router itself
abbrev pub is_own_network : RouteValue → Bool
is_own_network route = is_intra route.kind && list_any is_own_hop route.hops

abbrev pub has_net : List Net → Net → Bool
has_net nets net = list_any (eq_by_cmp prefix_cmp net) nets

-- the entry for an external prefix of the router's own: no way of the database
abbrev pub own_entry : Net → MatchValue
own_entry net = record { net = net; is_own = true; ways = [] }

-- the entry by a route
abbrev pub route_entry : Lists → RouterId → RouteValue → MatchValue
route_entry db router route = record { net = route.net; is_own = false; ways = ways_of db router route }

-- a network of the router itself comes first, then an external prefix of its own, then other routes: the order of connected
-- and static routes and those of OSPF
abbrev pub entry_by : Lists → RouterId → Net → Bool → Option RouteValue → Option MatchValue
entry_by db router net is_own route =
    if is_own && not (option_map_or is_own_network route false) then Some (own_entry net) else option_map (route_entry db router) route

-- the entry of a router for a prefix, if there is one
abbrev pub entry_for : Lists → RouterValue → Net → Option MatchValue
entry_for db r net = entry_by db r.router net (has_net r.own net) (route_to r.routes net)

-- ---- the longest match

module _ {E : Type 0} (entry : Net → Option E) (address : Addr) where
  -- the entry of the longest prefix, among those that cover the address and are no longer than this
  abbrev pub longest_within : ℕ → Option E
  longest_within zero = entry (masked address zero)
  longest_within (suc len) = option_or (entry (masked address (suc len))) (longest_within len)

  -- the entry of the longest prefix that covers the address
  unfoldable pub longest_match : Option E
  longest_match = longest_within 32

  -- no prefix that covers the address and is longer than this has an entry
  abbrev pub NoneLonger : ℕ → Type 0
  NoneLonger len = (longer : ℕ) → len < longer → longer ≤ 32 → entry (masked address longer) ≡ None

  -- the longest match in words: it is the entry of a prefix that covers the address, and no longer one that covers it has an
  -- entry; there is none where no prefix that covers it has one
  abbrev pub IsLongest : Option E → Type 0
  IsLongest found =
      MatchOption found ((len : ℕ) → len ≤ 32 → entry (masked address len) ≡ None)
      (λ e. (len : ℕ) × (len ≤ 32) × (entry (masked address len) ≡ Some e) × NoneLonger len)

-- the entry of a router for an address
abbrev pub match_of : Lists → RouterValue → Addr → Option MatchValue
match_of db r address = longest_match (entry_for db r) address

-- ---- routers

-- the routes of the table of a router, and none where it has no table
abbrev pub routes_in : Lists → RouterId → List RouteValue
routes_in db router = option_map_or (λ table. table.routes) (table_in db router) []

abbrev pub router_in : Lists → RouterId → RouterValue
router_in db router = record { router = router; routes = routes_in db router; own = own_externals db router }
