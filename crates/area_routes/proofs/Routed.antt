-- The best ways within one area, as routes of a router that is attached to this area alone.
use Rattle.std.proofs.Common.{◌≡◌, ◌<◌, ◌^◌, List, [], ◌∷◌, Some, get_or, map, sym, ap, subst, ◌∙◌}
use Rattle.std.specs.List.{All, flat_map}
use Rattle.std.specs.List.Sorted.{IsStrictlySortedBy}
use Rattle.std.proofs.lemmas.List.Elements.{All-map}
use Rattle.std.proofs.lemmas.Simd.{map-map}
use Rattle.lsa_codec.specs.declared.address.AreaId.{AreaId}
use Rattle.lsa_codec.specs.Order.{prefix_cmp}
use Rattle.lsa_codec.specs.Prefix.{Net}
use Rattle.lsa_codec.proofs.OrderLemmas.{prefix_exact, prefix_total}
use Rattle.next_hops.specs.Hop.{IsSortedHops}
use Rattle.next_hops.proofs.HopLemmas.{IsSortedHops-rising}
use Rattle.best_ways.specs.Best.{ways_of}
use Rattle.best_ways.specs.Candidate.{Candidate}
use Rattle.best_ways.specs.Routes.{route_through}
use Rattle.area_routes.specs.Offers.{AreSortedOffers, offer_of}
use Rattle.area_routes.specs.Values.{OfferValue, OffersBelow}
use Rattle.best_ways.specs.Values.{RouteValue, WayValue}
use Rattle.area_routes.specs.steps.OneArea.{IsIntraRank, IsIntraRoute, IsWithinArea, offered}
use Rattle.best_ways.proofs.WayLemmas.{sorted_ways, ways_have, ways_hold}

-- the offers are in order
pub sorted_offers : (cs : List (Candidate Net)) → AreSortedOffers (map offer_of (ways_of prefix_cmp cs))
sorted_offers cs =
    subst (λ (ks : List Net). IsStrictlySortedBy prefix_cmp ks) (sym (map-map (λ (o : OfferValue). o.net) offer_of (ways_of prefix_cmp cs)))
    (sorted_ways prefix_total prefix_exact cs)

-- the route by a way within the area
is_intra : (area : AreaId) (e : Net × WayValue) → IsIntraRank e.1.rank → IsSortedHops e.1.hops → IsIntraRoute area (route_through (Some area) e)
is_intra area e rank sorted = record {
  route = λ i. record { net = e.0; kind = rank.path i; areas = area ∷ []; cost = e.1.rank.cost; cost2 = rank.cost2 i; hops = e.1.hops };
  hops = sorted;
}

module _ (area : AreaId) (cs : List (Candidate Net)) (within : All IsWithinArea cs) (routes : List RouteValue)
    (are : routes ≡ map (route_through (Some area)) (ways_of prefix_cmp cs)) where
  ranks : All (λ (e : Net × WayValue). IsIntraRank e.1.rank) (ways_of prefix_cmp cs)
  ranks = ways_have IsIntraRank prefix_cmp cs within

  pub offers_by : map offered routes ≡ map offer_of (ways_of prefix_cmp cs)
  offers_by = ap (map offered) are ∙ map-map offered (route_through (Some area)) (ways_of prefix_cmp cs)

  pub intra_by : All (IsIntraRoute area) routes
  intra_by =
      let sorted : All (λ (e : Net × WayValue). IsSortedHops e.1.hops) (ways_of prefix_cmp cs) =
      ways_hold (λ w. IsSortedHops w.hops) (λ rank own. IsSortedHops-rising (flat_map (λ c. c.hops) own)) prefix_cmp cs in
      subst (All (IsIntraRoute area)) (sym are)
      (All-map (IsIntraRoute area) (route_through (Some area)) (ways_of prefix_cmp cs) (λ k d l. is_intra area (get_or (ways_of prefix_cmp cs) k d) (ranks k d l) (sorted k d l)))

  pub offers_below : OffersBelow (2 ^ 33) (map offered routes)
  offers_below =
      subst (OffersBelow (2 ^ 33)) (sym offers_by)
      (All-map (λ (o : OfferValue). o.cost < 2 ^ 33) offer_of (ways_of prefix_cmp cs) (λ k d l. let rank = ranks k d l in rank.below))
