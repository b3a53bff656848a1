-- Loops that keep, add up or join what they find.
use Rattle.std.proofs.Common.{◌≡◌, ℕ, ◌+◌, ◌<◌, Bool, cond, List, [], ◌∷◌, ◌++◌, Option, length, map, take, get_or, refl, sym, ap, subst, ◌∙◌, arith}
use Rattle.std.specs.Prelude.{◌==◌, flat_map}
use Rattle.std.specs.Cmp.{unsigned_ties}
use Rattle.std.specs.List.{filter, sum_by}
use Rattle.std.specs.Ordering.{eq_by_cmp}
use Rattle.std.proofs.lemmas.List.{append-nil, take_more}
use Rattle.std.proofs.lemmas.List.Elements.{filter-append}
use Rattle.std.proofs.lemmas.List.Sums.{sum_by-append}
use Rattle.std.proofs.lemmas.Grind.{flat_map-append}
use Rattle.lsa_codec.specs.Order.{router_cmp}
use Rattle.lsa_codec.specs.declared.address.RouterId.{RouterId}
use Rattle.lsdb.specs.Lists.{Lists}
use Rattle.forwarding.specs.Graphs.{ForwardingValue, IsForwardingOf, routers_of, routes_at}
use Rattle.forwarding.specs.Matches.{RouterValue, router_in}
use Rattle.area_graph.specs.Rising.{rising}
use Rattle.best_ways.proofs.RisingLemmas.{rising_append}
use Rattle.best_ways.specs.Values.{RouteValue}
use Rattle.next_hops.specs.Hop.{hop_cmp}
use Rattle.next_hops.specs.declared.hop.Hop.{Hop}
use Rattle.next_hops.proofs.HopLemmas.{hop_cmp_total, same_hop}
use Rattle.comparison.specs.Compared.{Compared}
use Rattle.comparison.specs.Rerouted.{hops_of}

pub equal_routers : (x y : RouterId) → (x.0 == y.0) ≡ eq_by_cmp router_cmp x y
equal_routers x y = unsigned_ties x.0 y.0

module _ {X : Type 0} (xs : List X) (i : ℕ) (x : X) (lt : i < length xs) where
  so_far : {Y : Type 0} (f : List X → Y) → f (take i xs ++ get_or xs i x ∷ []) ≡ f (take (i + 1) xs)
  so_far f = ap f (sym (take_more xs i x lt))

  -- one more, where a test keeps it
  pub kept : (p : X → Bool) (found new : List X) (b : Bool) → found ≡ filter p (take i xs) → b ≡ p (get_or xs i x)
      → new ≡ found ++ cond b (get_or xs i x ∷ []) [] → new ≡ filter p (take (i + 1) xs)
  kept p found new b are same added =
      added ∙ ap (λ l. l ++ cond b (get_or xs i x ∷ []) []) are
      ∙ ap (λ (t : Bool). filter p (take i xs) ++ cond t (get_or xs i x ∷ []) []) same
      ∙ sym (filter-append p (take i xs) (get_or xs i x ∷ [])) ∙ so_far (filter p)

  -- one more number
  pub summed : (f : X → ℕ) (sum more new : ℕ) → sum ≡ sum_by f (take i xs) → more ≡ f (get_or xs i x) → new ≡ sum + more
      → new ≡ sum_by f (take (i + 1) xs)
  summed f sum more new are is_more added =
      added ∙ ap (λ n. n + more) are ∙ ap (λ n. sum_by f (take i xs) + n) (is_more ∙ one_sum (get_or xs i x))
      ∙ sym (sum_by-append f (take i xs) (get_or xs i x ∷ [])) ∙ so_far (sum_by f)
    where
      one_sum : (y : X) → f y ≡ sum_by f (y ∷ [])
      one_sum y = omega arith

-- the hops of one more route
pub joined : (routes : List RouteValue) (i : ℕ) (r : RouteValue) (hops new : List Hop) → i < length routes → r ≡ get_or routes i r
    → hops ≡ hops_of (take i routes) → new ≡ rising hop_cmp (hops ++ r.hops) → new ≡ hops_of (take (i + 1) routes)
joined routes i r hops new lt is are more =
    more ∙ ap (λ (l : List Hop). rising hop_cmp (l ++ r.hops)) are
    ∙ rising_append hop_cmp_total same_hop (flat_map (λ (v : RouteValue). v.hops) (take i routes)) r.hops
    ∙ ap (λ (l : List Hop). rising hop_cmp (flat_map (λ (v : RouteValue). v.hops) (take i routes) ++ l)) (sym (append-nil r.hops))
    ∙ ap (rising hop_cmp) (sym (flat_map-append (λ (v : RouteValue). v.hops) (take i routes) (r ∷ [])))
    ∙ ap (λ (v : RouteValue). hops_of (take i routes ++ v ∷ [])) is ∙ so_far routes i r lt hops_of

-- the routers of what entries come from
pub ids_are : (db : Lists) (ids : List RouterId) → map (λ (r : RouterValue). r.router) (map (router_in db) ids) ≡ ids
ids_are db [] = refl
ids_are db (id ∷ ids) = ap (λ l. id ∷ l) (ids_are db ids)

-- what holds of the routes of a router that are found holds of those in both databases
pub of_both : (both : Compared) (router : RouterId) (were are : ForwardingValue) (was is : Option RouterValue)
    (P : Option RouterValue → Option RouterValue → Type 0)
    → IsForwardingOf both.baseline were → IsForwardingOf both.present are → was ≡ routes_at were.routers router → is ≡ routes_at are.routers router
    → P was is → P (routes_at (routers_of both.baseline) router) (routes_at (routers_of both.present) router)
of_both both router were are was is P of_baseline of_present found_was found_is holds =
    subst (λ (o : Option RouterValue). P (routes_at (routers_of both.baseline) router) o) (found are is of_present.routers found_is)
    (subst (λ (o : Option RouterValue). P o is) (found were was of_baseline.routers found_was) holds)
  where
    found : {all : List RouterValue} (f : ForwardingValue) (routes : Option RouterValue) → f.routers ≡ all
        → routes ≡ routes_at f.routers router → routes ≡ routes_at all router
    found f routes same is = is ∙ ap (λ (rs : List RouterValue). routes_at rs router) same
