-- The longest match of an address, by the next route in a table.
use Rattle.std.proofs.Common.{◌≡◌, ℕ, zero, suc, ◌-◌, ◌^◌, ◌<◌, ◌≤◌, Bool, true, false, cond, List, [], ◌∷◌, None, Some, refl, sym, ap, ◌∙◌, subst, arith}
use Rattle.std.specs.Prelude.{is_some}
use Rattle.std.specs.Cmp.{Equal-is, nat_cmp_is, ranked}
use Rattle.std.specs.List.{AllByRecursion, slice_get}
use Rattle.std.specs.List.Sorted.{IsStrictlySortedBy}
use Rattle.std.specs.Ordering.{eq_by_cmp, is_lt, nat_cmp, ordering_then}
use Rattle.std.specs.declared.cmp.Ordering.{Ordering}
use Rattle.std.specs.declared.cmp.Ordering.TheVariants.{Less, Equal, Greater}
use Rattle.std.proofs.lemmas.Bool.{false≢true}
use Rattle.std.proofs.lemmas.Nat.Bits.{and_high_mask_twice}
use Rattle.lsa_codec.specs.Order.{prefix_cmp}
use Rattle.lsa_codec.specs.Prefix.{Net, masked}
use Rattle.lsa_codec.specs.declared.address.Addr.{Addr}
use Rattle.lsa_codec.proofs.OrderLemmas.{prefix_exact}
use Rattle.area_graph.proofs.MemberLemmas.{Some-same}
use Rattle.best_ways.specs.Routes.{AreSortedRoutes, nets, route_to}
use Rattle.best_ways.specs.Values.{RouteValue}
use Rattle.loop_report.specs.steps.Falling.{IsAfter, IsLongestRoute}
use Rattle.loop_report.proofs.Covering.{covers_between}

-- ---- prefixes in order

-- one prefix is before another
record IsBefore (x y : Net) : Type 0 where
  pub le : x.addr.0 ≤ y.addr.0
  pub tie : x.addr.0 ≡ y.addr.0 → x.len < y.len

is_before : (x y : Net) → prefix_cmp x y ≡ Less → IsBefore x y
is_before x y less = by (nat_cmp x.addr.0 y.addr.0) refl less
  where
    by : (r : Ordering) → nat_cmp x.addr.0 y.addr.0 ≡ r → ordering_then r (nat_cmp x.len y.len) ≡ Less → IsBefore x y
    by Less is h =
        let lt : x.addr.0 < y.addr.0 = ranked x.addr.0 y.addr.0 Less (sym is) in
        record { le = omega (arith, lt); tie = λ same. absurd (omega (arith, lt, same)) }
    by Equal is h =
        let same : x.addr.0 ≡ y.addr.0 = ranked x.addr.0 y.addr.0 Equal (sym is) in
        record { le = omega (arith, same); tie = λ _. ranked x.len y.len Less (sym h) }
    by Greater is h = absurd (false≢true (ap is_lt h))

before_both : (x y z : Net) → IsBefore x y → IsBefore y z → IsBefore x z
before_both x y z first second = record {
  le = omega (arith, first.le, second.le);
  tie = λ same.
      (let left : x.len < y.len = first.tie (omega (arith, first.le, second.le, same)) in
      let right : y.len < z.len = second.tie (omega (arith, first.le, second.le, same)) in
      omega (arith, left, right));
}

not_itself : (x q : Net) → IsBefore x q → ¬ (q ≡ x)
not_itself x q before same =
    let more : x.len < q.len = before.tie (sym (ap (λ (n : Net). n.addr.0) same)) in
    let len : q.len ≡ x.len = ap (λ (n : Net). n.len) same in
    omega (arith, more, len)

is_other : (q n : Net) → ¬ (q ≡ n) → eq_by_cmp prefix_cmp q n ≡ false
is_other q n differ = by (eq_by_cmp prefix_cmp q n) refl
  where
    by : (b : Bool) → eq_by_cmp prefix_cmp q n ≡ b → b ≡ false
    by true is = absurd (differ (prefix_exact q n ((Equal-is (prefix_cmp q n)).0 is)))
    by false is = refl

is_same : (n : Net) → eq_by_cmp prefix_cmp n n ≡ true
is_same n =
    (Equal-is (prefix_cmp n n)).1
    (ap (λ (r : Ordering). ordering_then r (nat_cmp n.len n.len)) (sym (nat_cmp_is n.addr.0 n.addr.0 Equal refl))
    ∙ sym (nat_cmp_is n.len n.len Equal refl))

-- a longer prefix of an address is after a shorter one
below_longer : (address : Addr) (len longer : ℕ) → address.0 < 2 ^ 32 → len < longer → longer ≤ 32
    → IsBefore (masked address len) (masked address longer) × ((masked address longer).addr.0 ≤ address.0)
below_longer address len longer small lt short =
    let low : (masked address longer).addr.0 ≤ address.0 = (covers_between address (masked address longer) small refl).0 in
    let again : masked (masked address longer).addr len ≡ masked address len =
    ap (λ (n : ℕ). let net : Net = record { addr = record { 0 = n }; len = len } in net)
    (and_high_mask_twice 32 (32 - len) (omega arith) address.0 (32 - longer) (omega (arith, lt))) in
    let between = covers_between (masked address longer).addr (masked address len) (omega (arith, low, small)) again in
    (record { le = between.0; tie = λ _. lt }, low)

-- ---- in a table

skip : (q : Net) (x : RouteValue) (xs : List RouteValue) → ¬ (q ≡ x.net) → route_to (x ∷ xs) q ≡ route_to xs q
skip q x xs differ = ap (λ (b : Bool). cond b (Some x) (route_to xs q)) (is_other q x.net differ)

all_at : (P : Net → Type 0) (xs : List RouteValue) (k : ℕ) (route : RouteValue) → AllByRecursion P (nets xs) → slice_get xs k ≡ Some route → P route.net
all_at P [] k route all at = absurd (false≢true (ap is_some at))
all_at P (x ∷ xs) zero route all at = subst (λ (r : RouteValue). P r.net) (Some-same at) all.0
all_at P (x ∷ xs) (suc k) route all at = all_at P xs k route all.1 at

found_here : (xs : List RouteValue) (k : ℕ) (route : RouteValue) → AreSortedRoutes xs → slice_get xs k ≡ Some route → route_to xs route.net ≡ Some route
unfolding IsStrictlySortedBy
found_here [] k route s at = absurd (false≢true (ap is_some at))
found_here (x ∷ xs) zero route s at =
    let is : x ≡ route = Some-same at in
    ap (λ (b : Bool). cond b (Some x) (route_to xs route.net))
    (subst (λ (r : RouteValue). eq_by_cmp prefix_cmp r.net x.net ≡ true) is (is_same x.net))
    ∙ ap Some is
found_here (x ∷ xs) (suc k) route s at =
    skip route.net x xs
    (not_itself x.net route.net (is_before x.net route.net (all_at (λ y. prefix_cmp x.net y ≡ Less) xs k route s.0 at)))
    ∙ found_here xs k route s.1 at

module _ (address : Addr) (q : Net) (low : q.addr.0 ≤ address.0) where
  -- the routes from here on are to prefixes after the address
  abbrev IsPast : List RouteValue → Type 0
  IsPast xs = (n : RouteValue) → slice_get xs 0 ≡ Some n → address.0 < n.net.addr.0

  past_too : (x : RouteValue) → address.0 < x.net.addr.0 → (xs : List RouteValue) → AllByRecursion (λ y. prefix_cmp x.net y ≡ Less) (nets xs) → IsPast xs
  past_too x lt [] all n at = absurd (false≢true (ap is_some at))
  past_too x lt (y ∷ ys) all n at =
      subst (λ (r : RouteValue). address.0 < r.net.addr.0) (Some-same at) (omega (arith, lt, (is_before x.net y.net all.0).le))

  not_past : (x : RouteValue) → address.0 < x.net.addr.0 → ¬ (q ≡ x.net)
  not_past x lt same =
      let at : q.addr.0 ≡ x.net.addr.0 = ap (λ (n : Net). n.addr.0) same in
      omega (arith, lt, at, low)

  none_past : (xs : List RouteValue) → AreSortedRoutes xs → IsPast xs → route_to xs q ≡ None
  unfolding IsStrictlySortedBy
  none_past [] s past = refl
  none_past (x ∷ xs) s past =
      skip q x xs (not_past x (past x refl)) ∙ none_past xs s.1 (past_too x (past x refl) xs s.0)

  none_here : (xs : List RouteValue) (k : ℕ) (route : RouteValue) → AreSortedRoutes xs → slice_get xs k ≡ Some route → IsBefore route.net q
      → ((n : RouteValue) → slice_get xs (suc k) ≡ Some n → address.0 < n.net.addr.0) → route_to xs q ≡ None
  unfolding IsStrictlySortedBy
  none_here [] k route s at before past = refl
  none_here (x ∷ xs) zero route s at before past =
      skip q x xs (not_itself x.net q (subst (λ (r : RouteValue). IsBefore r.net q) (sym (Some-same at)) before))
      ∙ none_past xs s.1 past
  none_here (x ∷ xs) (suc k) route s at before past =
      skip q x xs
      (not_itself x.net q
      (before_both x.net route.net q (is_before x.net route.net (all_at (λ y. prefix_cmp x.net y ≡ Less) xs k route s.0 at)) before))
      ∙ none_here xs k route s.1 at before past

-- ---- the longest match

-- a route to a prefix that covers the address, before one to a prefix after the address
pub longest_here : (xs : List RouteValue) (k : ℕ) (route : RouteValue) (address : Addr) → address.0 < 2 ^ 32 → AreSortedRoutes xs → slice_get xs k ≡ Some route
    → masked address route.net.len ≡ route.net → route.net.len ≤ 32 → IsAfter address (slice_get xs (suc k))
    → IsLongestRoute xs address route
longest_here xs k route address small s at covers short past = record {
  short = short;
  covers = subst (λ (n : Net). route_to xs n ≡ Some route) (sym covers) (found_here xs k route s at);
  longest = λ longer lt le.
      (let below = below_longer address route.net.len longer small lt le in
      none_here address (masked address longer) below.1 xs k route s at (subst (λ (n : Net). IsBefore n (masked address longer)) covers below.0) past);
}
