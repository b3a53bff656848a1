-- A stable sort by prefix and a `dedup` leave, to each prefix, its first route.
use Rattle.std.proofs.Common.{◌≡◌, Bool, true, false, cond, List, [], ◌∷◌, Option, Some, refl, sym, ap, ◌∙◌}
use Rattle.std.specs.Prelude.{◌&&◌, ◌==◌, not}
use Rattle.std.specs.List.{AllByRecursion, dedup, dedup_from, filter, find}
use Rattle.std.specs.List.Sorted.{IsSortedByKey, IsStableByKey, IsStrictlySortedBy, ties}
use Rattle.std.specs.Cmp.{IsTotalOrder, Equal-is}
use Rattle.std.specs.Cmp.{unsigned_ties}
use Rattle.std.specs.Ordering.{eq_by_cmp, is_eq, is_lt, nat_cmp, ordering_reverse, ordering_then}
use Rattle.std.specs.declared.cmp.Ordering.{Ordering}
use Rattle.std.specs.declared.cmp.Ordering.TheVariants.{Less, Equal, Greater}
use Rattle.std.proofs.lemmas.Bool.{cond_both}
use Rattle.std.proofs.lemmas.List.Kept.{IsStrictlySortedBy-dedup}
use Rattle.lsa_codec.specs.Order.{prefix_cmp}
use Rattle.lsa_codec.specs.Prefix.{Net}
use Rattle.lsa_codec.proofs.OrderLemmas.{prefix_exact, prefix_total}
use Rattle.best_ways.specs.Routes.{AreSortedRoutes, nets, route_to}
use Rattle.best_ways.specs.Values.{RouteValue}
use Rattle.best_ways.specs.declared.rank.PathType.TheVariants as paths

abbrev route_cmp : RouteValue → RouteValue → Ordering
route_cmp x y = prefix_cmp x.net y.net

-- routes to one prefix
abbrev pub same_net : RouteValue → RouteValue → Bool
same_net x y = (x.net.addr.0 == y.net.addr.0) && (x.net.len == y.net.len)

equal_then : (a b : Ordering) → is_eq (ordering_then a b) ≡ (is_eq a && is_eq b)
equal_then Less b = refl
equal_then Equal b = refl
equal_then Greater b = refl

same_by_cmp : (x y : RouteValue) → same_net x y ≡ eq_by_cmp route_cmp x y
same_by_cmp x y =
    ap (λ b. b && (x.net.len == y.net.len)) (unsigned_ties x.net.addr.0 y.net.addr.0)
    ∙ ap (λ b. is_eq (nat_cmp x.net.addr.0 y.net.addr.0) && b) (unsigned_ties x.net.len y.net.len)
    ∙ sym (equal_then (nat_cmp x.net.addr.0 y.net.addr.0) (nat_cmp x.net.len y.net.len))

route_total : IsTotalOrder route_cmp
route_total = record {
  antisymm = λ x y. prefix_total.antisymm x.net y.net;
  trans = λ x y z. prefix_total.trans x.net y.net z.net;
  congr = λ x y z. prefix_total.congr x.net y.net z.net;
}

-- ---- the routes that are left stand in order of prefix

all_nets : (k : Net) (rs : List RouteValue) → AllByRecursion (λ r. prefix_cmp k r.net ≡ Less) rs → AllByRecursion (λ n. prefix_cmp k n ≡ Less) (nets rs)
all_nets k [] a = tt
all_nets k (r ∷ rs) a = (a.0, all_nets k rs a.1)

sorted_nets : (rs : List RouteValue) → IsStrictlySortedBy route_cmp rs → AreSortedRoutes rs
unfolding IsStrictlySortedBy
sorted_nets [] up = tt
sorted_nets (r ∷ rs) up = (all_nets r.net rs up.0, sorted_nets rs up.1)

pub sorted_firsts : (rs : List RouteValue) → IsSortedByKey (λ (r : RouteValue). r.net) prefix_cmp rs → AreSortedRoutes (dedup same_net rs)
sorted_firsts rs up = sorted_nets (dedup same_net rs) (IsStrictlySortedBy-dedup route_total same_by_cmp rs up)

-- ---- a prefix has the route after it that it had before

-- of two routes to one prefix the second is never found
found_once : (q : Net) (k x : RouteValue) (rest : Option RouteValue) → same_net x k ≡ true
    → cond (eq_by_cmp prefix_cmp q k.net) (Some k) rest ≡ cond (eq_by_cmp prefix_cmp q k.net) (Some k) (cond (eq_by_cmp prefix_cmp q x.net) (Some x) rest)
found_once q k x rest same =
    let is : x.net ≡ k.net = prefix_exact x.net k.net ((Equal-is (prefix_cmp x.net k.net)).0 (sym (same_by_cmp x k) ∙ same)) in
    by (eq_by_cmp prefix_cmp q k.net) (eq_by_cmp prefix_cmp q x.net) (ap (eq_by_cmp prefix_cmp q) is)
  where
    by : (a b : Bool) → b ≡ a → cond a (Some k) rest ≡ cond a (Some k) (cond b (Some x) rest)
    by true b e = refl
    by false b e = ap (λ c. cond c (Some x) rest) (sym e)

route_dedup_from : (q : Net) (k : RouteValue) (xs : List RouteValue) → route_to (dedup_from same_net k xs) q ≡ route_to (k ∷ xs) q
route_dedup_from q k [] = refl
route_dedup_from q k (x ∷ xs) =
    cond_both (same_net x k) (dedup_from same_net k xs) (k ∷ dedup_from same_net x xs) (λ l. route_to l q ≡ route_to (k ∷ x ∷ xs) q)
    (λ same. route_dedup_from q k xs ∙ found_once q k x (route_to xs q) same)
    (λ _. ap (cond (eq_by_cmp prefix_cmp q k.net) (Some k)) (route_dedup_from q x xs))

route_dedup : (q : Net) (rs : List RouteValue) → route_to (dedup same_net rs) q ≡ route_to rs q
route_dedup q [] = refl
route_dedup q (r ∷ rs) = route_dedup_from q r rs

module _ (p : RouteValue → Bool) where
  find_filter : (rs : List RouteValue) → find p (filter p rs) ≡ find p rs
  find_filter [] = refl
  find_filter (r ∷ rs) = by (p r) refl (find_filter rs)
    where
      by : (b : Bool) → p r ≡ b → find p (filter p rs) ≡ find p rs → find p (cond b (r ∷ filter p rs) (filter p rs)) ≡ cond b (Some r) (find p rs)
      by true e rest = ap (λ b. cond b (Some r) (find p (filter p rs))) e
      by false e rest = rest

  find_same : (t : RouteValue → Bool) → ((r : RouteValue) → p r ≡ t r) → (rs : List RouteValue) → find p rs ≡ find t rs
  find_same t alike [] = refl
  find_same t alike (r ∷ rs) = ap (λ b. cond b (Some r) (find p rs)) (alike r) ∙ ap (cond (t r) (Some r)) (find_same t alike rs)

tied : (r s : Ordering) → s ≡ ordering_reverse r → (not (is_lt r) && not (is_lt s)) ≡ is_eq r
tied Less s e = refl
tied Equal s e = ap (λ o. not (is_lt o)) e
tied Greater s e = ap (λ o. not (is_lt o)) e

-- a route to a prefix, of which nothing but the prefix matters
abbrev route_at : Net → RouteValue
route_at q = record { net = q; kind = paths.Intra; areas = []; cost = 0; cost2 = 0; hops = [] }

abbrev ties_at : Net → RouteValue → Bool
ties_at q = ties (λ (x y : RouteValue). is_lt (prefix_cmp x.net y.net)) (route_at q)

route_by_ties : (q : Net) (rs : List RouteValue) → find (ties_at q) rs ≡ route_to rs q
route_by_ties q rs = find_same (ties_at q) (λ r. eq_by_cmp prefix_cmp q r.net)
    (λ r. tied (prefix_cmp q r.net) (prefix_cmp r.net q) (prefix_total.antisymm r.net q)) rs

route_stable : (q : Net) (xs ys : List RouteValue) → IsStableByKey (λ (r : RouteValue). r.net) prefix_cmp xs ys → route_to ys q ≡ route_to xs q
route_stable q xs ys stable =
    sym (route_by_ties q ys) ∙ sym (find_filter (ties_at q) ys) ∙ ap (find (ties_at q)) (stable (route_at q)) ∙ find_filter (ties_at q) xs ∙ route_by_ties q xs

pub route_firsts : (q : Net) (xs ys : List RouteValue) → IsStableByKey (λ (r : RouteValue). r.net) prefix_cmp xs ys
    → route_to (dedup same_net ys) q ≡ route_to xs q
route_firsts q xs ys stable = route_dedup q ys ∙ route_stable q xs ys stable
