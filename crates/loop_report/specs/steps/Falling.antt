-- Costs of routes that fall along all ways: no walk comes back to where the cost was higher.
use Rattle.std.specs.Prelude.{◌≡◌, ◌<◌, ◌≤◌, ℕ, Bool, ◌&&◌, not, false, if◌then◌else◌, All, List, length, Option, None, Some, ⊤}
use Rattle.std.specs.Option.{option_map, option_map_or}
use Rattle.lsa_codec.specs.Prefix.{Net, masked}
use Rattle.lsa_codec.specs.declared.address.Addr.{Addr}
use Rattle.lsa_codec.specs.declared.address.RouterId.{RouterId}
use Rattle.lsdb.specs.Lists.{Lists}
use Rattle.next_hops.specs.declared.hop.Hop.{Hop}
use Rattle.best_ways.specs.Routes.{route_to}
use Rattle.best_ways.specs.Values.{RouteValue}
use Rattle.forwarding.specs.Graphs.{routes_at}
use Rattle.forwarding.specs.Matches.{NoneLonger, RouterValue, has_net, is_own_network, longest_match}
use Rattle.hop_ends.specs.Owners.{targets_of}

-- ---- the longest match by routes

-- a route, if there is one, is to a prefix that begins after an address
abbrev pub IsAfter : Addr → Option RouteValue → Type 0
IsAfter address next = (route : RouteValue) → next ≡ Some route → address.0 < route.net.addr.0

-- a route is the one to the longest prefix that covers an address
pub record IsLongestRoute (routes : List RouteValue) (address : Addr) (route : RouteValue) : Type 0 where
  pub short : route.net.len ≤ 32
  pub covers : route_to routes (masked address route.net.len) ≡ Some route
  pub longest : NoneLonger (route_to routes) address route.net.len

-- no prefix of a set that covers an address has this length or a greater one
abbrev pub NoneCovers : List Net → Addr → ℕ → Type 0
NoneCovers nets address least = (len : ℕ) → least ≤ len → len ≤ 32 → has_net nets (masked address len) ≡ false

-- ---- what a router uses for an address: a route, or a source of its own for an external prefix, which has no route

abbrev pub source_by : Bool → Option RouteValue → Option (Option RouteValue)
source_by is_own route = if is_own && not (option_map_or is_own_network route false) then Some None else option_map Some route

abbrev pub source_for : RouterValue → Net → Option (Option RouteValue)
source_for r net = source_by (has_net r.own net) (route_to r.routes net)

abbrev pub source_of : RouterValue → Addr → Option (Option RouteValue)
source_of r address = longest_match (source_for r) address

-- the cost of a route; a source of the router's own costs nothing
abbrev pub cost_of : Option RouteValue → ℕ
cost_of source = option_map_or (λ route. route.cost) source 0

abbrev pub cost_for : Addr → RouterValue → ℕ
cost_for address r = option_map_or cost_of (source_of r address) 0

-- ---- costs that fall

module _ (routers : List RouterValue) (address : Addr) where
  abbrev pub cost_at : RouterId → ℕ
  cost_at router = option_map_or (cost_for address) (routes_at routers router) 0

  -- what the routers use costs less than this
  abbrev pub AreCheaper : ℕ → List RouterId → Type 0
  AreCheaper cost found = All (λ router. cost_at router < cost) found

  -- a hop of a router leads to one router at most, and what that one uses costs less
  pub record FallsOver (db : Lists) (router : RouterId) (cost : ℕ) (hop : Hop) : Type 0 where
    pub few : length (targets_of db router hop) ≤ 1
    pub cheaper : AreCheaper cost (targets_of db router hop)

  -- all hops of a route do
  abbrev pub FallsAlong : Lists → RouterId → Option RouteValue → Type 0
  FallsAlong db router None = ⊤
  FallsAlong db router (Some route) = All (FallsOver db router route.cost) route.hops

  -- a router has a match, and what those use to which it leads costs less
  pub record Falls (db : Lists) (r : RouterValue) : Type 0 where
    pub source : Option RouteValue
    pub uses : source_of r address ≡ Some source
    pub along : FallsAlong db r.router source
