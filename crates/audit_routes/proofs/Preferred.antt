-- The preferred routes of two lists are in order, and their costs are as small as in the lists.
use Rattle.std.proofs.Common.{◌≡◌, ◌∙◌, ◌<◌, ◌^◌, List, [], ◌∷◌, ◌++◌, map, Option, None, Some, IfSome, refl, sym, ap, subst, Bool, true, false, cond}
use Rattle.std.specs.Prelude.{All}
use Rattle.std.specs.List.{AllByRecursion, cons_option, filter_map}
use Rattle.std.specs.List.Sorted.{IsStrictlySortedBy}
use Rattle.std.specs.Cmp.{Equal-is}
use Rattle.std.specs.Option.{option_or}
use Rattle.std.specs.Ordering.{eq_by_cmp}
use Rattle.std.specs.declared.cmp.Ordering.TheVariants.{Less}
use Rattle.std.proofs.lemmas.List.{map-append}
use Rattle.std.proofs.lemmas.List.Elements.{All-cons, All-head, All-nil, All-tail}
use Rattle.lsa_codec.specs.Order.{prefix_cmp}
use Rattle.lsa_codec.specs.Prefix.{Net}
use Rattle.lsa_codec.proofs.OrderLemmas.{prefix_exact, prefix_total}
use Rattle.area_graph.specs.Rising.{rising}
use Rattle.best_ways.specs.Routes.{AreSortedRoutes, nets, route_to}
use Rattle.best_ways.specs.Values.{RouteValue, RoutesBelow}
use Rattle.best_ways.proofs.RisingLemmas.{sorted_rising}
use Rattle.routing_table.specs.Preferring.{preferred_route, preferring}
use Rattle.routing_table.proofs.PreferenceLemmas.{route_all}
use Rattle.audit_routes.specs.Compatibility.{classless_route}

-- ---- order

-- the route to a prefix has this prefix
route_net : (q : Net) (rs : List RouteValue) (r : RouteValue) → route_to rs q ≡ Some r → r.net ≡ q
route_net q [] r h = absurd cc
route_net q (x ∷ xs) r h = by (eq_by_cmp prefix_cmp q x.net) refl (route_net q xs r) h
  where
    by : (b : Bool) → eq_by_cmp prefix_cmp q x.net ≡ b → (route_to xs q ≡ Some r → r.net ≡ q) → cond b (Some x) (route_to xs q) ≡ Some r → r.net ≡ q
    by true same later found =
        let is : x ≡ r = cc in
        sym (prefix_exact q x.net ((Equal-is (prefix_cmp q x.net)).0 same) ∙ ap (λ (y : RouteValue). y.net) is)
    by false same later found = later found

preferred_net : (first second : List RouteValue) (q : Net) (r : RouteValue) → preferred_route first second q ≡ Some r → r.net ≡ q
preferred_net first second q r is = by (route_to first q) (route_net q first r) is
  where
    by : (o : Option RouteValue) → (o ≡ Some r → r.net ≡ q) → option_or o (route_to second q) ≡ Some r → r.net ≡ q
    by None here found = route_net q second r found
    by (Some x) here found = here found

module _ (f : Net → Option RouteValue) (own : (k : Net) (r : RouteValue) → f k ≡ Some r → r.net ≡ k) where
  all_nets : (P : Net → Type 0) (ks : List Net) → AllByRecursion P ks → AllByRecursion P (nets (filter_map f ks))
  all_nets P [] all = tt
  all_nets P (k ∷ ks) all = by (f k) (own k) (all_nets P ks all.1)
    where
      by : (o : Option RouteValue) → ((r : RouteValue) → o ≡ Some r → r.net ≡ k) → AllByRecursion P (nets (filter_map f ks))
          → AllByRecursion P (nets (cons_option o (filter_map f ks)))
      by None at rest = rest
      by (Some r) at rest = (subst P (sym (at r refl)) all.0, rest)

  -- routes to prefixes in order are in order
  sorted_found : (ks : List Net) → IsStrictlySortedBy prefix_cmp ks → IsStrictlySortedBy prefix_cmp (nets (filter_map f ks))
  unfolding IsStrictlySortedBy
  sorted_found [] up = tt
  sorted_found (k ∷ ks) up = by (f k) (own k) (all_nets (λ y. prefix_cmp k y ≡ Less) ks up.0) (sorted_found ks up.1)
    where
      by : (o : Option RouteValue) → ((r : RouteValue) → o ≡ Some r → r.net ≡ k)
          → AllByRecursion (λ y. prefix_cmp k y ≡ Less) (nets (filter_map f ks)) → IsStrictlySortedBy prefix_cmp (nets (filter_map f ks))
          → IsStrictlySortedBy prefix_cmp (nets (cons_option o (filter_map f ks)))
      by None at below rest = rest
      by (Some r) at below rest =
          (subst (λ (n : Net). AllByRecursion (λ y. prefix_cmp n y ≡ Less) (nets (filter_map f ks))) (sym (at r refl)) below, rest)

-- ---- costs

all_found : (P : RouteValue → Type 0) (f : Net → Option RouteValue) → ((k : Net) → IfSome (f k) P) → (ks : List Net) → All P (filter_map f ks)
all_found P f given [] = All-nil P
all_found P f given (k ∷ ks) = by (f k) (given k) (all_found P f given ks)
  where
    by : (o : Option RouteValue) → IfSome o P → All P (filter_map f ks) → All P (cons_option o (filter_map f ks))
    by None here rest = rest
    by (Some r) here rest = All-cons P r (filter_map f ks) here rest

-- ---- both lists

module _ (first second : List RouteValue) where
  abbrev keys : List Net
  keys = rising prefix_cmp (nets (first ++ second))

  -- the routes to the prefixes of both lists are the preferred ones
  pub preferred_all : (ks : List Net) → ks ≡ rising prefix_cmp (nets first ++ nets second)
      → filter_map (preferred_route first second) ks ≡ preferring first second
  preferred_all ks are =
      ap (filter_map (preferred_route first second)) (are ∙ ap (rising prefix_cmp) (sym (map-append (λ r. r.net) first second)))

  pub preferred_sorted : AreSortedRoutes (preferring first second)
  preferred_sorted = sorted_found (preferred_route first second) (preferred_net first second) keys (sorted_rising prefix_total (nets (first ++ second)))

  pub preferred_below : RoutesBelow (2 ^ 34) first → RoutesBelow (2 ^ 34) second → RoutesBelow (2 ^ 34) (preferring first second)
  preferred_below low high =
      let P : RouteValue → Type 0 = λ r. r.cost < 2 ^ 34 in
      all_found P (preferred_route first second)
      (λ k. by (route_to first k) (route_to second k) (route_all P first k low) (route_all P second k high)) keys
    where
      by : (o p : Option RouteValue) → IfSome o (λ r. r.cost < 2 ^ 34) → IfSome p (λ r. r.cost < 2 ^ 34) → IfSome (option_or o p) (λ r. r.cost < 2 ^ 34)
      by None p a b = b
      by (Some x) p a b = a

-- ---- without their classes

nets_kept : (rs : List RouteValue) → nets (map classless_route rs) ≡ nets rs
nets_kept [] = refl
nets_kept (r ∷ rs) = ap (λ l. r.net ∷ l) (nets_kept rs)

pub classless_sorted : (rs : List RouteValue) → AreSortedRoutes rs → AreSortedRoutes (map classless_route rs)
classless_sorted rs up = subst (λ (ns : List Net). IsStrictlySortedBy prefix_cmp ns) (sym (nets_kept rs)) up

pub classless_below : (rs : List RouteValue) → RoutesBelow (2 ^ 34) rs → RoutesBelow (2 ^ 34) (map classless_route rs)
classless_below [] low = All-nil (λ (r : RouteValue). r.cost < 2 ^ 34)
classless_below (r ∷ rs) low =
    let P : RouteValue → Type 0 = λ r. r.cost < 2 ^ 34 in
    All-cons P (classless_route r) (map classless_route rs) (All-head P r rs low) (classless_below rs (All-tail P r rs low))
