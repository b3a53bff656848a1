-- What `==` says of prefixes, and which prefixes have an entry.
use Rattle.std.proofs.Common.{◌≡◌, ℕ, ◌<◌, Bool, true, false, cond, List, [], ◌∷◌, length, get_or, Option, Some, None, refl, sym, ap, ◌∙◌}
use Rattle.std.specs.Prelude.{◌&&◌, ◌||◌, ◌==◌, is_some, not}
use Rattle.std.specs.List.{list_any}
use Rattle.std.specs.Cmp.{Equal-is, tied_then, unsigned_ties}
use Rattle.std.specs.Ordering.{eq_by_cmp, is_eq, nat_cmp}
use Rattle.std.specs.declared.cmp.Ordering.TheVariants.{Equal}
use Rattle.std.proofs.lemmas.Cmp.{tied_itself}
use Rattle.std.proofs.lemmas.List.Elements.{at_read}
use Rattle.std.proofs.lemmas.List.Folds.{list_any-append}
use Rattle.lsa_codec.specs.Order.{prefix_cmp}
use Rattle.lsa_codec.specs.Prefix.{Net}
use Rattle.lsa_codec.proofs.OrderLemmas.{prefix_exact, prefix_total}
use Rattle.best_ways.specs.Routes.{AreSortedRoutes, nets, route_to}
use Rattle.best_ways.specs.Values.{RouteValue}
use Rattle.best_ways.proofs.SearchLemmas.{found_at}
use Rattle.forwarding.specs.Matches.{RouterValue, has_net, is_own_network}
use Rattle.router_entries.specs.Entries.{entry_by, entry_for, has_entry, nets_of, own_external, route_entry}

pub equal_nets : (x y : Net) → ((x.addr.0 == y.addr.0) && (x.len == y.len)) ≡ eq_by_cmp prefix_cmp x y
equal_nets x y =
    ap (λ b. b && (x.len == y.len)) (unsigned_ties x.addr.0 y.addr.0) ∙ ap (λ b. is_eq (nat_cmp x.addr.0 y.addr.0) && b) (unsigned_ties x.len y.len)
    ∙ tied_then (nat_cmp x.addr.0 y.addr.0) (nat_cmp x.len y.len)

-- prefixes that `==` finds equal are the same
pub same_net : (x y : Net) → ((x.addr.0 == y.addr.0) && (x.len == y.len)) ≡ true → x ≡ y
same_net x y h = prefix_exact x y ((Equal-is (prefix_cmp x y)).0 (sym (equal_nets x y) ∙ h))

-- a route that stands at a place is the route to its prefix
pub route_at : (rs : List RouteValue) (i : ℕ) (r : RouteValue) (q : Net) → AreSortedRoutes rs → i < length rs → r ≡ get_or rs i r → r.net ≡ q
    → Some r ≡ route_to rs q
route_at rs i r q sorted within is same =
    found_at prefix_total (λ (x : RouteValue). x.net) q rs i sorted within
    (at_read rs (λ x. prefix_cmp x.net q ≡ Equal) i r within is (ap (λ n. prefix_cmp n q) same ∙ tied_itself prefix_total q)) r is

-- ---- prefixes that have an entry

has_by : (is_own : Bool) (route : Option RouteValue) → is_some (entry_by is_own route) ≡ (is_some route || is_own)
has_by false None = refl
has_by false (Some r) = refl
has_by true None = refl
has_by true (Some r) = by_network (is_own_network r)
  where
    by_network : (b : Bool) → is_some (cond (not b) (Some own_external) (Some (route_entry r))) ≡ true
    by_network true = refl
    by_network false = refl

any_net : (q : Net) (rs : List RouteValue) → list_any (eq_by_cmp prefix_cmp q) (nets rs) ≡ is_some (route_to rs q)
any_net q [] = refl
any_net q (r ∷ rs) = by_first (eq_by_cmp prefix_cmp q r.net) (any_net q rs)
  where
    by_first : (b : Bool) → list_any (eq_by_cmp prefix_cmp q) (nets rs) ≡ is_some (route_to rs q)
        → (b || list_any (eq_by_cmp prefix_cmp q) (nets rs)) ≡ is_some (cond b (Some r) (route_to rs q))
    by_first true rest = refl
    by_first false rest = rest

-- a prefix is one of the entries exactly where it has one
pub any_of : (r : RouterValue) (q : Net) → list_any (eq_by_cmp prefix_cmp q) (nets_of r) ≡ is_some (entry_for r q)
any_of r q =
    list_any-append (eq_by_cmp prefix_cmp q) (nets r.routes) r.own
    ∙ ap (λ b. b || has_net r.own q) (any_net q r.routes)
    ∙ sym (has_by (has_net r.own q) (route_to r.routes q))

pub tested : (r : RouterValue) (q : Net) → has_entry r q ≡ is_some (entry_for r q)
tested r q = sym (has_by (has_net r.own q) (route_to r.routes q))
