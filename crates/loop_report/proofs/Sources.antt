-- What a router uses for an address, and its match.
use Rattle.std.proofs.Common.{◌≡◌, ℕ, zero, suc, ◌<◌, ◌≤◌, Bool, true, false, cond, [], Option, None, Some, List, refl, sym, ap, ◌∙◌, subst, arith}
use Rattle.std.specs.Prelude.{◌&&◌, not, ⊤}
use Rattle.std.specs.Option.{option_map, option_map_or, option_or}
use Rattle.lsa_codec.specs.Prefix.{Net, masked}
use Rattle.lsa_codec.specs.declared.address.Addr.{Addr}
use Rattle.lsa_codec.specs.declared.address.RouterId.{RouterId}
use Rattle.lsdb.specs.Lists.{Lists}
use Rattle.best_ways.specs.Routes.{route_to}
use Rattle.best_ways.specs.Values.{RouteValue}
use Rattle.forwarding.specs.Matches.{MatchValue, RouterValue, entry_by, entry_for, has_net, is_own_network, longest_match, longest_within, match_of, own_entry, route_entry}
use Rattle.forwarding.proofs.LongestMatchLemmas.{match_found}
use Rattle.hop_ends.specs.Ways.{ways_of}
use Rattle.hop_ends.specs.declared.way.Way.{Way}
use Rattle.loop_report.specs.steps.Falling.{IsLongestRoute, NoneCovers, source_by, source_for, source_of}

-- ---- the longest prefix

module _ {E : Type 0} (entry : Net → Option E) (address : Addr) where
  -- one has an entry, and no longer one
  pub longest_is : (len : ℕ) (e : E) → len ≤ 32 → entry (masked address len) ≡ Some e
      → ((longer : ℕ) → len < longer → longer ≤ 32 → entry (masked address longer) ≡ None) → longest_match entry address ≡ Some e
  longest_is len e le at none = sym (match_found entry address len e le at none)

-- ---- sources

not_own : (own : Bool) (o p : Option RouteValue) → own ≡ false → o ≡ p → source_by own o ≡ option_map Some p
not_own own o p is same = ap (λ (b : Bool). source_by b o) is ∙ ap (λ (q : Option RouteValue). option_map Some q) same

-- the route to the longest prefix, where no prefix of the router's own that is as long covers the address
pub source_is_route : (r : RouterValue) (address : Addr) (route : RouteValue) → IsLongestRoute r.routes address route
    → NoneCovers r.own address route.net.len → source_of r address ≡ Some (Some route)
source_is_route r address route is none =
    longest_is (source_for r) address route.net.len (Some route) is.short
    (not_own (has_net r.own (masked address route.net.len)) (route_to r.routes (masked address route.net.len)) (Some route)
    (none route.net.len (omega arith) is.short) is.covers)
    (λ longer lt le.
    not_own (has_net r.own (masked address longer)) (route_to r.routes (masked address longer)) None
    (none longer (omega (arith, lt)) le) (is.longest longer lt le))

-- ---- matches

-- where the hops of a source lead
abbrev pub source_ways : Lists → RouterId → Option RouteValue → List Way
source_ways db router None = []
source_ways db router (Some route) = ways_of db router route

module _ (db : Lists) (router : RouterId) where
  -- an entry has the ways of a source, and there is one where there is the other
  abbrev AreAlike : Option (Option RouteValue) → Option MatchValue → Type 0
  AreAlike None None = ⊤
  AreAlike None (Some m) = ⊥
  AreAlike (Some source) None = ⊥
  AreAlike (Some source) (Some m) = m.ways ≡ source_ways db router source

  alike_if : (net : Net) (route : Option RouteValue) (b : Bool)
      → AreAlike (cond b (Some None) (option_map Some route)) (cond b (Some (own_entry net)) (option_map (route_entry db router) route))
  alike_if net route true = refl
  alike_if net None false = tt
  alike_if net (Some route) false = refl

  alike_by : (own : Bool) (net : Net) (route : Option RouteValue) → AreAlike (source_by own route) (entry_by db router net own route)
  alike_by own net route = alike_if net route (own && not (option_map_or is_own_network route false))

  alike_or : (a b : Option (Option RouteValue)) (c d : Option MatchValue) → AreAlike a c → AreAlike b d → AreAlike (option_or a b) (option_or c d)
  alike_or None b None d first second = second
  alike_or None b (Some c) d first second = absurd first
  alike_or (Some a) b None d first second = absurd first
  alike_or (Some a) b (Some c) d first second = first

  alike_some : (source : Option RouteValue) (o : Option MatchValue) → AreAlike (Some source) o → (m : MatchValue) × (o ≡ Some m) × (m.ways ≡ source_ways db router source)
  alike_some source None alike = absurd alike
  alike_some source (Some m) alike = (m, refl, alike)

module _ (db : Lists) (r : RouterValue) (address : Addr) where
  alike_at : (net : Net) → AreAlike db r.router (source_for r net) (entry_for db r net)
  alike_at net = alike_by db r.router (has_net r.own net) net (route_to r.routes net)

  alike_within : (most : ℕ) → AreAlike db r.router (longest_within (source_for r) address most) (longest_within (entry_for db r) address most)
  alike_within zero = alike_at (masked address 0)
  alike_within (suc most) =
      alike_or db r.router (source_for r (masked address (suc most))) (longest_within (source_for r) address most)
      (entry_for db r (masked address (suc most))) (longest_within (entry_for db r) address most) (alike_at (masked address (suc most))) (alike_within most)

  alike_match : AreAlike db r.router (source_of r address) (match_of db r address)
  unfolding longest_match
  alike_match = alike_within 32

  -- a router has a match with the ways of what it uses
  pub match_used : (source : Option RouteValue) → source_of r address ≡ Some source
      → (m : MatchValue) × (match_of db r address ≡ Some m) × (m.ways ≡ source_ways db r.router source)
  match_used source uses =
      alike_some db r.router source (match_of db r address) (subst (λ (o : Option (Option RouteValue)). AreAlike db r.router o (match_of db r address)) uses alike_match)

-- what is read of a router for a prefix
pub source_read : (r : RouterValue) (net at : Net) (own : List Net) (routes : List RouteValue) (b : Bool) (o : Option RouteValue)
    → net ≡ at → own ≡ r.own → routes ≡ r.routes → b ≡ has_net own net → o ≡ route_to routes net → source_by b o ≡ source_for r at
source_read r net at own routes b o same own_is routes_are is_own route =
    ap (λ (c : Bool). source_by c o) is_own ∙ ap (λ (q : Option RouteValue). source_by (has_net own net) q) route
    ∙ ap (λ (l : List Net). source_by (has_net l net) (route_to routes net)) own_is
    ∙ ap (λ (l : List RouteValue). source_by (has_net r.own net) (route_to l net)) routes_are
    ∙ ap (λ (n : Net). source_for r n) same
