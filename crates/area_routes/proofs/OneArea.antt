-- What one area offers are the routes of a router that is attached to it alone.
use Rattle.std.proofs.Common.{◌≡◌, ℕ, ◌<◌, ◌^◌, Bool, true, false, cond, List, [], ◌∷◌, get_or, length, map, Some, refl, sym, ap, ◌∙◌, subst, arith}
use Rattle.std.specs.List.{AllByRecursion, All, filter}
use Rattle.std.specs.List.Sorted.{IsStrictlySortedBy}
use Rattle.std.specs.Cmp.{Equal-is}
use Rattle.std.specs.Map.{keys_of, lookup}
use Rattle.std.specs.Ordering.{eq_by_cmp, is_eq}
use Rattle.std.specs.declared.cmp.Ordering.TheVariants.{Less}
use Rattle.std.proofs.lemmas.List.{append-nil}
use Rattle.std.proofs.lemmas.List.Elements.{All-head, All-map, All-nil, All-tail}
use Rattle.std.proofs.lemmas.Simd.{map-map}
use Rattle.lsa_codec.specs.declared.address.AreaId.{AreaId}
use Rattle.lsa_codec.specs.Order.{prefix_cmp}
use Rattle.lsa_codec.specs.Prefix.{Net}
use Rattle.lsa_codec.proofs.OrderLemmas.{prefix_exact, prefix_total}
use Rattle.next_hops.specs.Hop.{IsSortedHops}
use Rattle.next_hops.proofs.HopLemmas.{rising-sorted}
use Rattle.best_ways.specs.declared.rank.PathType.TheVariants.{Intra}
use Rattle.best_ways.specs.Best.{way_of, way_to, ways_of}
use Rattle.best_ways.specs.Candidate.{Candidate}
use Rattle.area_routes.specs.Intra.{intra_candidate, intra_candidates, intra_of, intra_route}
use Rattle.area_routes.specs.Offers.{AreSortedOffers}
use Rattle.best_ways.specs.Routes.{AreSortedRoutes, nets, route_of, routes_of}
use Rattle.area_routes.specs.Values.{AreaResultValue, EntriesBelow, EntryValue, OfferValue, OffersBelow}
use Rattle.best_ways.specs.Values.{RouteValue, RoutesBelow, WayValue}
use Rattle.area_routes.specs.steps.OneArea.{IsIntraRoute, IsResultBy, offered}
use Rattle.best_ways.proofs.WayLemmas.{HasWays, all_ways, way_push}

-- the prefixes of offers
abbrev offered_nets : List OfferValue → List Net
offered_nets os = map (λ o. o.net) os

module _ (area : AreaId) where
  pub nets_by : (os : List OfferValue) → nets (map (intra_route area) os) ≡ offered_nets os
  nets_by os = map-map (λ (r : RouteValue). r.net) (intra_route area) os

  pub sorted_by : (os : List OfferValue) → AreSortedOffers os → AreSortedRoutes (map (intra_route area) os)
  sorted_by os up = subst (λ (ks : List Net). IsStrictlySortedBy prefix_cmp ks) (sym (nets_by os)) up

  pub below_by : (bound : ℕ) (os : List OfferValue) → OffersBelow bound os → RoutesBelow bound (map (intra_route area) os)
  below_by bound os below = All-map (λ (r : RouteValue). r.cost < bound) (intra_route area) os below

  -- the way by an offer
  abbrev way : OfferValue → WayValue
  way o = record { rank = record { path = Intra; cost2 = 0; class = 0; cost = o.cost }; areas = area ∷ []; hops = o.hops }

  abbrev entry : OfferValue → Net × WayValue
  entry o = (o.net, way o)

  abbrev candidates : List OfferValue → List (Candidate Net)
  candidates os = map (intra_candidate area) os

  -- greater prefixes are different
  none_for : (q k : Net) → q ≡ k → (os : List OfferValue) → AllByRecursion (λ n. prefix_cmp k n ≡ Less) (offered_nets os)
      → filter (λ c. eq_by_cmp prefix_cmp q c.key) (candidates os) ≡ []
  none_for q k same [] a = refl
  none_for q k same (o ∷ os) a =
      ap (λ b. cond b (intra_candidate area o ∷ filter (λ c. eq_by_cmp prefix_cmp q c.key) (candidates os))
      (filter (λ c. eq_by_cmp prefix_cmp q c.key) (candidates os)))
      (ap (λ (n : Net). eq_by_cmp prefix_cmp n o.net) same ∙ ap is_eq a.0)
      ∙ none_for q k same os a.1

  -- the way of one candidate
  alone : (o : OfferValue) → IsSortedHops o.hops → Some (way o) ≡ way_of (intra_candidate area o ∷ [])
  alone o sorted =
      (λ i. Some (record { rank = (way o).rank; areas = area ∷ []; hops = rising-sorted o.hops sorted i }))
      ∙ sym (way_push [] (intra_candidate area o))

  has_ways : (os : List OfferValue) → IsStrictlySortedBy prefix_cmp (offered_nets os) → All (λ o. IsSortedHops o.hops) os
      → HasWays prefix_cmp (candidates os) (map entry os)
  unfolding IsStrictlySortedBy
  has_ways [] up sorted q = refl
  has_ways (o ∷ os) up sorted q = by (eq_by_cmp prefix_cmp q o.net) refl (has_ways os up.1 (All-tail (λ (x : OfferValue). IsSortedHops x.hops) o os sorted) q)
    where
      by : (b : Bool) → eq_by_cmp prefix_cmp q o.net ≡ b → lookup (eq_by_cmp prefix_cmp q) (map entry os) ≡ way_to prefix_cmp (candidates os) q
          → cond b (Some (way o)) (lookup (eq_by_cmp prefix_cmp q) (map entry os))
          ≡ way_of (cond b (intra_candidate area o ∷ filter (λ c. eq_by_cmp prefix_cmp q c.key) (candidates os))
          (filter (λ c. eq_by_cmp prefix_cmp q c.key) (candidates os)))
      by false e rest = rest
      by true e rest =
          let same = prefix_exact q o.net ((Equal-is (prefix_cmp q o.net)).0 e) in
          alone o (All-head (λ (x : OfferValue). IsSortedHops x.hops) o os sorted)
          ∙ ap (λ (cs : List (Candidate Net)). way_of (intra_candidate area o ∷ cs)) (sym (none_for q o.net same os up.0))

  keys_by : (os : List OfferValue) → keys_of (map entry os) ≡ offered_nets os
  keys_by [] = refl
  keys_by (o ∷ os) = ap (λ (ks : List Net). o.net ∷ ks) (keys_by os)

  ways_by : (os : List OfferValue) → AreSortedOffers os → All (λ o. IsSortedHops o.hops) os → map entry os ≡ ways_of prefix_cmp (candidates os)
  ways_by os up sorted =
      all_ways prefix_total prefix_exact (map entry os) (candidates os)
      (subst (λ (ks : List Net). IsStrictlySortedBy prefix_cmp ks) (sym (keys_by os)) up) (has_ways os up sorted)

pub routes_of_one : (r : AreaResultValue) → AreSortedOffers r.offers → All (λ o. IsSortedHops o.hops) r.offers
    → map (intra_route r.area) r.offers ≡ intra_of (r ∷ [])
unfolding intra_of
routes_of_one r up sorted =
    sym (map-map route_of (entry r.area) r.offers)
    ∙ ap (map route_of) (ways_by r.area r.offers up sorted)
    ∙ ap routes_of (sym (append-nil (intra_candidates r)))

-- ---- the routes of a router that is attached to one area, as the area's result keeps them

module _ (area : AreaId) where
  pub routes_by_offers : (rs : List RouteValue) → All (IsIntraRoute area) rs → rs ≡ map (intra_route area) (map offered rs)
  routes_by_offers [] a = refl
  routes_by_offers (r ∷ rs) a =
      let first : r ≡ intra_route area (offered r) = (All-head (IsIntraRoute area) r rs a).route in
      let others : rs ≡ map (intra_route area) (map offered rs) = routes_by_offers rs (All-tail (IsIntraRoute area) r rs a) in
      λ i. first i ∷ others i

  pub hops_by_offers : (rs : List RouteValue) → All (IsIntraRoute area) rs → All (λ o. IsSortedHops o.hops) (map offered rs)
  hops_by_offers rs a = All-map (λ (o : OfferValue). IsSortedHops o.hops) offered rs (λ k d l. (a k d l).hops)

  -- the ways by routes as candidates are the ways that the area offers
  pub candidates_by : (os : List OfferValue) → map (λ r. intra_candidate area (offered r)) (map (intra_route area) os) ≡ map (intra_candidate area) os
  candidates_by os = map-map (λ r. intra_candidate area (offered r)) (intra_route area) os

  -- where the routes are taken out
  pub nothing_by : (es : List EntryValue) → EntriesBelow (2 ^ 33) es → IsResultBy area [] es
  unfolding IsStrictlySortedBy
  nothing_by es below = record {
    below = record { offers = All-nil (λ (o : OfferValue). o.cost < 2 ^ 33); entries = below };
    sorted = tt;
    intra = All-nil (IsIntraRoute area);
  }

-- a list of one
pub one_of : {X : Type 0} (xs : List X) (d : X) → length xs ≡ 1 → xs ≡ get_or xs 0 d ∷ []
one_of [] d one = absurd (omega (arith, one))
one_of (x ∷ []) d one = refl
one_of (x ∷ y ∷ xs) d one = absurd (omega (arith, one))
