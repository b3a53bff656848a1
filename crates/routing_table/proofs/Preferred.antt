-- What the preferred routes of two lists are: in order, and to each prefix the first list's route, else the second's.
use Rattle.std.proofs.Common.{◌≡◌, ◌<◌, ◌^◌, Bool, true, false, cond, List, [], ◌∷◌, ◌++◌, length, map, Option, Some, None, IfSome, refl, sym, ap, ◌∙◌, subst}
use Rattle.std.specs.Prelude.{◌||◌}
use Rattle.std.specs.List.{All, list_any, filter_map, cons_option}
use Rattle.std.specs.List.Sorted.{IsStrictlySortedBy}
use Rattle.std.specs.Map.{keys_of, lookup}
use Rattle.std.specs.Option.{option_map, option_or}
use Rattle.std.specs.Cmp.{Equal-is}
use Rattle.std.proofs.lemmas.List.Elements.{All-cons, All-head, All-nil, All-tail}
use Rattle.std.specs.Ordering.{eq_by_cmp}
use Rattle.std.proofs.lemmas.List.{map-append}
use Rattle.std.proofs.lemmas.List.Folds.{list_any-append}
use Rattle.std.proofs.lemmas.Bool.{or_parts}
use Rattle.lsa_codec.specs.Prefix.{Net}
use Rattle.area_graph.specs.Rising.{rising}
use Rattle.lsa_codec.specs.Order.{prefix_cmp}
use Rattle.best_ways.specs.Routes.{AreSortedRoutes, nets, route_to}
use Rattle.best_ways.specs.Values.{RouteValue, RoutesBelow}
use Rattle.best_ways.proofs.LookupLemmas.{entries_at, lookup_entries, same_entries, sorted_entries}
use Rattle.lsa_codec.proofs.OrderLemmas.{prefix_exact, prefix_total}
use Rattle.best_ways.proofs.RisingLemmas.{any_rising, sorted_rising}
use Rattle.routing_table.specs.Preferring.{preferred_route, preferring}

-- a route with its prefix
abbrev keyed : RouteValue → Net × RouteValue
keyed r = (r.net, r)

abbrev same : Net → Net → Bool
same = eq_by_cmp prefix_cmp

lookup_keyed : (q : Net) (rs : List RouteValue) → lookup (same q) (map keyed rs) ≡ route_to rs q
lookup_keyed q [] = refl
lookup_keyed q (r ∷ rs) = ap (cond (same q r.net) (Some r)) (lookup_keyed q rs)

keys_keyed : (rs : List RouteValue) → keys_of (map keyed rs) ≡ nets rs
keys_keyed [] = refl
keys_keyed (r ∷ rs) = ap (λ l. r.net ∷ l) (keys_keyed rs)

option_or-none : {A : Type 0} (o : Option A) → option_or o None ≡ o
option_or-none None = refl
option_or-none (Some x) = refl

none_there : (q : Net) (rs : List RouteValue) → list_any (same q) (nets rs) ≡ false → route_to rs q ≡ None
none_there q [] h = refl
none_there q (r ∷ rs) h =
    let parts = or_parts (same q r.net) (list_any (same q) (nets rs)) h in
    ap (λ b. cond b (Some r) (route_to rs q)) parts.0 ∙ none_there q rs parts.1

module _ (first second : List RouteValue) where
  any_nets : (q : Net) → list_any (same q) (nets (first ++ second)) ≡ (list_any (same q) (nets first) || list_any (same q) (nets second))
  any_nets q = ap (list_any (same q)) (map-append (λ r. r.net) first second) ∙ list_any-append (same q) (nets first) (nets second)

  -- there is a route only to a prefix of the lists
  only_nets : (q : Net) (b : Bool) → list_any (same q) (nets (first ++ second)) ≡ b
      → cond b (preferred_route first second q) None ≡ preferred_route first second q
  only_nets q true h = refl
  only_nets q false h =
      let parts = or_parts (list_any (same q) (nets first)) (list_any (same q) (nets second)) (sym (any_nets q) ∙ h) in
      sym (ap (λ o. option_or o (route_to second q)) (none_there q first parts.0) ∙ none_there q second parts.1)

-- ---- the preferred routes stand in order, and what holds of all routes of both lists holds of them

route_net : (q : Net) (rs : List RouteValue) (r : RouteValue) → route_to rs q ≡ Some r → r.net ≡ q
route_net q [] r h = cc
route_net q (x ∷ xs) r h = by (same q x.net) refl h (route_net q xs r)
  where
    by : (b : Bool) → same q x.net ≡ b → cond b (Some x) (route_to xs q) ≡ Some r → (route_to xs q ≡ Some r → r.net ≡ q) → r.net ≡ q
    by true e k rest =
        let is : r ≡ x = cc in
        ap (λ (y : RouteValue). y.net) is ∙ sym (prefix_exact q x.net ((Equal-is (prefix_cmp q x.net)).0 e))
    by false e k rest = rest k

preferred_net : (first second : List RouteValue) (q : Net) (r : RouteValue) → preferred_route first second q ≡ Some r → r.net ≡ q
preferred_net first second q r h = by (route_to first q) refl h
  where
    by : (o : Option RouteValue) → route_to first q ≡ o → option_or o (route_to second q) ≡ Some r → r.net ≡ q
    by None e k = route_net q second r k
    by (Some x) e k = let is : Some x ≡ Some r = k in route_net q first r (e ∙ is)

nets_at : (f : Net → Option RouteValue) (ks : List Net) → ((k : Net) (r : RouteValue) → f k ≡ Some r → r.net ≡ k)
    → nets (filter_map f ks) ≡ keys_of (entries_at prefix_cmp f ks)
nets_at f [] of_key = refl
nets_at f (k ∷ ks) of_key = by (f k) refl (nets_at f ks of_key)
  where
    by : (o : Option RouteValue) → f k ≡ o → nets (filter_map f ks) ≡ keys_of (entries_at prefix_cmp f ks)
        → nets (cons_option o (filter_map f ks)) ≡ keys_of (cons_option (option_map (λ v. (k, v)) o) (entries_at prefix_cmp f ks))
    by None e rest = rest
    by (Some r) e rest = let n = of_key k r e in λ i. n i ∷ rest i

keyed_at : (f : Net → Option RouteValue) (ks : List Net) → ((k : Net) (r : RouteValue) → f k ≡ Some r → r.net ≡ k)
    → map keyed (filter_map f ks) ≡ entries_at prefix_cmp f ks
keyed_at f [] of_key = refl
keyed_at f (k ∷ ks) of_key = by (f k) refl (keyed_at f ks of_key)
  where
    by : (o : Option RouteValue) → f k ≡ o → map keyed (filter_map f ks) ≡ entries_at prefix_cmp f ks
        → map keyed (cons_option o (filter_map f ks)) ≡ cons_option (option_map (λ v. (k, v)) o) (entries_at prefix_cmp f ks)
    by None e rest = rest
    by (Some r) e rest = let n = of_key k r e in λ i. (n i, r) ∷ rest i

-- the preferred routes have at each prefix the preferred route
pub route_preferring : (first second : List RouteValue) (q : Net) → route_to (preferring first second) q ≡ preferred_route first second q
route_preferring first second q =
    let f = preferred_route first second in
    let ks = rising prefix_cmp (nets (first ++ second)) in
    sym (lookup_keyed q (preferring first second)) ∙ ap (lookup (same q)) (keyed_at f ks (preferred_net first second))
    ∙ lookup_entries prefix_cmp prefix_exact f ks q ∙ ap (λ b. cond b (f q) None) (any_rising prefix_total q (nets (first ++ second)))
    ∙ only_nets first second q _ refl

pub preferring_sorted : (first second : List RouteValue) → AreSortedRoutes (preferring first second)
preferring_sorted first second =
    let ks = rising prefix_cmp (nets (first ++ second)) in
    subst (λ ns. IsStrictlySortedBy prefix_cmp ns) (sym (nets_at (preferred_route first second) ks (preferred_net first second)))
    (sorted_entries prefix_cmp (preferred_route first second) ks (sorted_rising prefix_total (nets (first ++ second))))

-- ---- where there is no second list the first one stands as it is

values_keyed : (rs : List RouteValue) → map (λ (e : Net × RouteValue). e.1) (map keyed rs) ≡ rs
values_keyed [] = refl
values_keyed (r ∷ rs) = ap (λ l. r ∷ l) (values_keyed rs)

keyed_sorted : (rs : List RouteValue) → AreSortedRoutes rs → IsStrictlySortedBy prefix_cmp (keys_of (map keyed rs))
keyed_sorted rs up = subst (λ ks. IsStrictlySortedBy prefix_cmp ks) (sym (keys_keyed rs)) up

-- two lists in order that have the same route to each prefix are one
same_routes : (xs ys : List RouteValue) → AreSortedRoutes xs → AreSortedRoutes ys → ((q : Net) → route_to xs q ≡ route_to ys q) → xs ≡ ys
same_routes xs ys up_x up_y same_at =
    sym (values_keyed xs)
    ∙ ap (map (λ (e : Net × RouteValue). e.1))
    (same_entries prefix_total prefix_exact (map keyed xs) (map keyed ys) (keyed_sorted xs up_x) (keyed_sorted ys up_y)
    (λ q. lookup_keyed q xs ∙ same_at q ∙ sym (lookup_keyed q ys)))
    ∙ values_keyed ys

pub preferring_alone : (first second : List RouteValue) → AreSortedRoutes first → second ≡ [] → preferring first second ≡ first
preferring_alone first second up empty =
    ap (preferring first) empty
    ∙ same_routes (preferring first []) first (preferring_sorted first []) up
    (λ q. route_preferring first [] q ∙ option_or-none (route_to first q))

pub nothing_in : (rs : List RouteValue) → length rs ≡ 0 → rs ≡ []
nothing_in [] none = refl
nothing_in (r ∷ rs) none = absurd cc

module _ (P : RouteValue → Type 0) where
  pub route_all : (rs : List RouteValue) (q : Net) → All P rs → IfSome (route_to rs q) P
  route_all [] q all = tt
  route_all (r ∷ rs) q all = by (same q r.net) (route_all rs q (All-tail P r rs all))
    where
      by : (b : Bool) → IfSome (route_to rs q) P → IfSome (cond b (Some r) (route_to rs q)) P
      by true rest = All-head P r rs all
      by false rest = rest

  some_all : (f : Net → Option RouteValue) (ks : List Net) → ((k : Net) → IfSome (f k) P) → All P (filter_map f ks)
  some_all f [] each = All-nil P
  some_all f (k ∷ ks) each = by (f k) (each k) (some_all f ks each)
    where
      by : (o : Option RouteValue) → IfSome o P → All P (filter_map f ks) → All P (cons_option o (filter_map f ks))
      by None h rest = rest
      by (Some r) h rest = All-cons P r (filter_map f ks) h rest

  pub preferring_all : (first second : List RouteValue) → All P first → All P second → All P (preferring first second)
  preferring_all first second a b = some_all (preferred_route first second) (rising prefix_cmp (nets (first ++ second)))
      (λ q. by (route_to first q) (route_to second q) (route_all first q a) (route_all second q b))
    where
      by : (o other : Option RouteValue) → IfSome o P → IfSome other P → IfSome (option_or o other) P
      by None other h k = k
      by (Some r) other h k = h

-- the route to a prefix in two lists, one after the other
route_append : (q : Net) (xs ys : List RouteValue) → route_to (xs ++ ys) q ≡ option_or (route_to xs q) (route_to ys q)
route_append q [] ys = refl
route_append q (x ∷ xs) ys = by (same q x.net) (route_append q xs ys)
  where
    by : (b : Bool) → route_to (xs ++ ys) q ≡ option_or (route_to xs q) (route_to ys q)
        → cond b (Some x) (route_to (xs ++ ys) q) ≡ option_or (cond b (Some x) (route_to xs q)) (route_to ys q)
    by true rest = refl
    by false rest = rest

-- routes in order that have to each prefix the first of both lists
module _ (first second whole firsts : List RouteValue) (up : AreSortedRoutes firsts) (is : whole ≡ first ++ second)
    (same_at : (q : Net) → route_to firsts q ≡ route_to whole q) where
  pub firsts_are : firsts ≡ preferring first second
  firsts_are =
      same_routes firsts (preferring first second) up (preferring_sorted first second)
      (λ q. same_at q ∙ ap (λ (l : List RouteValue). route_to l q) is ∙ route_append q first second ∙ sym (route_preferring first second q))

  pub firsts_small : RoutesBelow (2 ^ 34) first → RoutesBelow (2 ^ 34) second → RoutesBelow (2 ^ 34) firsts
  firsts_small a b = subst (RoutesBelow (2 ^ 34)) (sym firsts_are) (preferring_all (λ r. r.cost < 2 ^ 34) first second a b)
