-- Prefixes in order, and the lines for them.
use Rattle.std.proofs.Common.{◌≡◌, ℕ, zero, suc, cond, Bool, true, false, List, [], ◌∷◌, ◌++◌, Some, refl, sym, ap, subst, ◌∙◌}
use Rattle.std.specs.Prelude.{◌&&◌, ◌||◌, ◌==◌}
use Rattle.std.specs.List.{AllByRecursion, list_any, slice_get}
use Rattle.std.specs.List.Sorted.{IsStrictlySortedBy}
use Rattle.std.specs.Cmp.{unsigned_ties}
use Rattle.std.specs.Ordering.{eq_by_cmp, is_eq, nat_cmp, ordering_reverse, ordering_then}
use Rattle.std.specs.declared.cmp.Ordering.{Ordering}
use Rattle.std.specs.declared.cmp.Ordering.TheVariants.{Less, Equal, Greater}
use Rattle.std.proofs.lemmas.Cmp.{tied_itself}
use Rattle.std.proofs.lemmas.List.{map-append}
use Rattle.lsa_codec.specs.Prefix.{Net}
use Rattle.lsa_codec.specs.Order.{prefix_cmp}
use Rattle.lsa_codec.proofs.OrderLemmas.{prefix_exact, prefix_total}
use Rattle.best_ways.specs.Routes.{AreSortedRoutes, nets, route_to}
use Rattle.best_ways.specs.Values.{RouteValue}
use Rattle.best_ways.proofs.RisingLemmas.{rising_is}
use Rattle.area_graph.specs.Rising.{rising}
use Rattle.std.proofs.lemmas.List.Folds.{list_any-append}

-- ---- equal prefixes

equal_then : (a b : Ordering) → is_eq (ordering_then a b) ≡ (is_eq a && is_eq b)
equal_then Less b = refl
equal_then Equal b = refl
equal_then Greater b = refl

pub same_prefix : (x y : Net) → ((x.addr.0 == y.addr.0) && (x.len == y.len)) ≡ eq_by_cmp prefix_cmp x y
same_prefix x y =
    ap (λ b. b && (x.len == y.len)) (unsigned_ties x.addr.0 y.addr.0) ∙ ap (λ b. is_eq (nat_cmp x.addr.0 y.addr.0) && b) (unsigned_ties x.len y.len)
    ∙ sym (equal_then (nat_cmp x.addr.0 y.addr.0) (nat_cmp x.len y.len))

equal_of : (o : Ordering) → is_eq o ≡ true → o ≡ Equal
equal_of Less h = cc
equal_of Equal h = refl
equal_of Greater h = cc

-- prefixes that `==` finds equal are the same
pub prefix_same : (x y : Net) → ((x.addr.0 == y.addr.0) && (x.len == y.len)) ≡ true → x ≡ y
prefix_same x y h = prefix_exact x y (equal_of (prefix_cmp x y) (sym (same_prefix x y) ∙ h))

or_same : (b : Bool) → (b || b) ≡ b
or_same true = refl
or_same false = refl

-- where both lists have the same prefixes, all prefixes are those of one of them
pub same_nets : (before now : List RouteValue) → AreSortedRoutes before → nets before ≡ nets now → nets before ≡ rising prefix_cmp (nets (before ++ now))
same_nets before now up same =
    rising_is prefix_total prefix_exact (nets before) (nets (before ++ now)) up (λ q.
    let has = list_any (eq_by_cmp prefix_cmp q) in
    sym (ap has (map-append (λ (r : RouteValue). r.net) before now) ∙ list_any-append (eq_by_cmp prefix_cmp q) (nets before) (nets now)
    ∙ ap (λ l. has (nets before) || has l) (sym same) ∙ or_same (has (nets before))))

-- ---- the route at a place

net_at : (k : Net) (rs : List RouteValue) (i : ℕ) (r : RouteValue) → AllByRecursion (λ y. prefix_cmp k y ≡ Less) (nets rs) → slice_get rs i ≡ Some r
    → prefix_cmp k r.net ≡ Less
net_at k [] i r above h = cc
net_at k (x ∷ xs) zero r above h = let is : x ≡ r = cc in subst (λ (y : RouteValue). prefix_cmp k y.net ≡ Less) is above.0
net_at k (x ∷ xs) (suc i) r above h = net_at k xs i r above.1 h

-- a route that stands in a list in order is the route to its prefix
pub route_at : (rs : List RouteValue) (i : ℕ) (r : RouteValue) (q : Net) → AreSortedRoutes rs → slice_get rs i ≡ Some r → r.net ≡ q
    → Some r ≡ route_to rs q
unfolding IsStrictlySortedBy
route_at [] i r q up h is = cc
route_at (x ∷ xs) zero r q up h is =
    let same : x ≡ r = cc in
    let tie : prefix_cmp q x.net ≡ Equal =
    subst (λ (k : Net). prefix_cmp q k ≡ Equal) (sym is ∙ ap (λ (y : RouteValue). y.net) (sym same)) (tied_itself prefix_total q) in
    ap Some (sym same) ∙ sym (ap (λ o. cond (is_eq o) (Some x) (route_to xs q)) tie)
route_at (x ∷ xs) (suc i) r q up h is =
    let above : prefix_cmp x.net q ≡ Less = subst (λ (k : Net). prefix_cmp x.net k ≡ Less) is (net_at x.net xs i r up.0 h) in
    route_at xs i r q up.1 h is
    ∙ sym (ap (λ o. cond (is_eq o) (Some x) (route_to xs q)) (prefix_total.antisymm q x.net ∙ ap ordering_reverse above))
