-- Prefixes between two consecutive routes.
use Rattle.std.proofs.Common.{◌≡◌, ℕ, zero, suc, ◌-◌, ◌<◌, ◌==◌, Bool, true, false, Bor, IfSome, cond, List, [], ◌∷◌, length, get_or, Option, Some, None, Err, refl, sym, ap, subst, ◌∙◌, arith}
use Rattle.std.specs.Prelude.{is_some}
use Rattle.std.specs.List.{AllByRecursion, HoldsAt, find, slice_get}
use Rattle.std.specs.List.Sorted.{IsBinarySearchResult, IsStrictlySortedBy}
use Rattle.std.specs.Option.{option_copied, option_map_or}
use Rattle.std.specs.Ordering.{eq_by_cmp, is_eq, is_lt, ordering_reverse}
use Rattle.std.specs.declared.cmp.Ordering.{Ordering}
use Rattle.std.specs.declared.cmp.Ordering.TheVariants.{Less, Equal, Greater}
use Rattle.std.proofs.lemmas.Bool.{eqb-true}
use Rattle.std.proofs.lemmas.List.{get_or_default}
use Rattle.lsa_codec.proofs.OrderLemmas.{prefix_total}
use Rattle.lsa_codec.specs.Order.{prefix_cmp}
use Rattle.lsa_codec.specs.Prefix.{Net}
use Rattle.best_ways.specs.Routes.{AreSortedRoutes, has_route, nets}
use Rattle.best_ways.specs.Values.{RouteValue}
use Rattle.best_ways.proofs.SearchLemmas.{found_at, not_found}
use Rattle.external_routes.specs.steps.Lookup.{is_ahead, is_after}
use Rattle.external_routes.proofs.Items.{item_found}
use lib.Dec.{ltb}

less_from : (r : Ordering) → is_lt r ≡ true → r ≡ Less
less_from Less h = refl
less_from Equal h = cc
less_from Greater h = cc

module _ (net : Net) where
  abbrev found : List RouteValue → Option RouteValue
  found routes = find (λ r. eq_by_cmp prefix_cmp net r.net) routes

  -- a prefix that is below that of the first route, and so of all
  none_from : (k : Net) (rs : List RouteValue) → prefix_cmp net k ≡ Less → AllByRecursion (λ y. prefix_cmp k y ≡ Less) (nets rs) → None ≡ found rs
  none_from k [] h a = refl
  none_from k (r ∷ rs) h a =
      none_from k rs h a.1 ∙ sym (ap (λ o. cond (is_eq o) (Some r) (found rs)) (prefix_total.trans net k r.net h a.0))

  -- what is below a route's prefix is below the prefixes after it
  below_after : (k : Net) (rs : List RouteValue) (p : ℕ) → AllByRecursion (λ y. prefix_cmp k y ≡ Less) (nets rs)
      → option_map_or (λ r. is_lt (prefix_cmp r.net net)) (slice_get rs p) false ≡ true → prefix_cmp k net ≡ Less
  below_after k [] p a h = cc
  below_after k (r ∷ rs) zero a h = prefix_total.trans k r.net net a.0 (less_from (prefix_cmp r.net net) h)
  below_after k (r ∷ rs) (suc p) a h = below_after k rs p a.1 h

  passed : (r : RouteValue) (rs : List RouteValue) → prefix_cmp r.net net ≡ Less → None ≡ found rs → None ≡ found (r ∷ rs)
  passed r rs less rest = rest ∙ sym (ap (λ o. cond (is_eq o) (Some r) (found rs)) (prefix_total.antisymm net r.net ∙ ap ordering_reverse less))

  -- the place is the first one
  ahead_of : (rs : List RouteValue) → AreSortedRoutes rs → is_ahead rs 0 net ≡ true → None ≡ found rs
  unfolding IsStrictlySortedBy
  ahead_of [] s a = refl
  ahead_of (q ∷ qs) s a =
      let less = less_from (prefix_cmp net q.net) a in
      none_from q.net qs less s.0 ∙ sym (ap (λ o. cond (is_eq o) (Some q) (found qs)) less)

  -- the place is another one
  after_some : (rs : List RouteValue) (p : ℕ) → AreSortedRoutes rs
      → option_map_or (λ r. is_lt (prefix_cmp r.net net)) (slice_get rs p) false ≡ true → is_ahead rs (suc p) net ≡ true → None ≡ found rs
  unfolding IsStrictlySortedBy
  after_some [] p s b a = refl
  after_some (r ∷ rs) zero s b a = passed r rs (less_from (prefix_cmp r.net net) b) (ahead_of rs s.1 a)
  after_some (r ∷ rs) (suc p) s b a = passed r rs (below_after r.net rs p s.0 b) (after_some rs p s.1 b a)

  pub none_between : (routes : List RouteValue) (place : ℕ) → AreSortedRoutes routes → is_after routes place net ≡ true → is_ahead routes place net ≡ true
      → has_route routes net ≡ false
  none_between routes zero s b a = sym (ap is_some (ahead_of routes s a))
  none_between routes (suc p) s b a =
      let P : ℕ → Type 0 = λ i. option_map_or (λ (r : RouteValue). is_lt (prefix_cmp r.net net)) (slice_get routes i) false ≡ true in
      let same : suc p - 1 ≡ p = omega arith in
      sym (ap is_some (after_some routes p s (subst P same (not_first (suc p == 0) refl b)) a))
    where
      not_first : (c : Bool) → (suc p == 0) ≡ c
          → cond c true (option_map_or (λ (r : RouteValue). is_lt (prefix_cmp r.net net)) (slice_get routes (suc p - 1)) false) ≡ true
          → option_map_or (λ (r : RouteValue). is_lt (prefix_cmp r.net net)) (slice_get routes (suc p - 1)) false ≡ true
      not_first true e h = let none = eqb-true (suc p) 0 e in absurd (omega arith)
      not_first false e h = h

  -- the route before a place that is not the first one
  pub before_read : (routes : List RouteValue) (place : ℕ) (o : Option (Bor RouteValue)) → (place ≡ 0 → ⊥)
      → is_some o ≡ ltb (place - 1) (length routes) → IfSome o (λ x. x.now ≡ get_or routes (place - 1) x.now)
      → option_map_or (λ (r : RouteValue). is_lt (prefix_cmp r.net net)) (option_copied o) false ≡ is_after routes place net
  before_read routes place o other some at =
      ap (λ (r : Option RouteValue). option_map_or (λ (r : RouteValue). is_lt (prefix_cmp r.net net)) r false) (item_found routes (place - 1) o some at)
      ∙ sym (ap (λ b. cond b true (option_map_or (λ (r : RouteValue). is_lt (prefix_cmp r.net net)) (slice_get routes (place - 1)) false)) (by (place == 0) refl))
    where
      by : (b : Bool) → (place == 0) ≡ b → (place == 0) ≡ false
      by true e = absurd (other (eqb-true place 0 e))
      by false e = e

  -- what a binary search finds has a route
  pub route_found : (routes : List RouteValue) (i : ℕ) → AreSortedRoutes routes → i < length routes
      → HoldsAt (λ r. prefix_cmp r.net net ≡ Equal) routes i → has_route routes net ≡ true
  route_found [] i s l h = absurd (omega arith)
  route_found (r ∷ rs) i s l h =
      sym (ap is_some (found_at prefix_total (λ r. r.net) net (r ∷ rs) i s l h (get_or (r ∷ rs) i r) (get_or_default (r ∷ rs) i r (get_or (r ∷ rs) i r) l)))

  -- what it does not find has none
  pub no_route_found : (routes : List RouteValue) (i : ℕ) → AreSortedRoutes routes
      → IsBinarySearchResult (λ r. prefix_cmp r.net net) routes (Err i) → has_route routes net ≡ false
  no_route_found routes i s at = sym (ap is_some (not_found prefix_total (λ r. r.net) net routes i s at))
