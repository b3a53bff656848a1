-- The intra-area routes are the best of all ways within all areas.
use Rattle.std.proofs.Common.{◌≡◌, List, [], ◌∷◌, map, Some, refl, sym, subst, ◌∙◌}
use Rattle.std.specs.List.{All, flat_map}
use Rattle.std.proofs.lemmas.List.Elements.{All-head, All-map, All-tail}
use Rattle.std.proofs.lemmas.Map.Lookups.{CmpEqualImpliesEq}
use Rattle.std.proofs.lemmas.Simd.{map-map}
use Rattle.std.specs.Cmp.{IsTotalOrder}
use Rattle.lsa_codec.proofs.OrderLemmas.{prefix_exact}
use Rattle.lsa_codec.specs.declared.address.AreaId.{AreaId}
use Rattle.lsa_codec.specs.declared.address.RouterId.{RouterId}
use Rattle.lsa_codec.specs.Order.{prefix_cmp}
use Rattle.lsa_codec.specs.Prefix.{Net}
use Rattle.lsdb.specs.Lists.{AreaHead, Lists}
use Rattle.area_graph.specs.Area.{used}
use Rattle.best_ways.specs.declared.rank.PathType.TheVariants.{Intra}
use Rattle.best_ways.specs.declared.rank.Rank.{Rank}
use Rattle.area_routes.specs.AreaResults.{area_result}
use Rattle.best_ways.specs.Best.{ways_of}
use Rattle.best_ways.specs.Candidate.{Candidate}
use Rattle.area_routes.specs.Intra.{intra_candidate, intra_candidates, intra_of}
use Rattle.best_ways.specs.InWords.{AreBestWays}
use Rattle.area_routes.specs.Offers.{best_offers, offer_candidate, offer_of}
use Rattle.best_ways.specs.Order.{rank_cmp}
use Rattle.area_routes.specs.Reached.{reached_from}
use Rattle.area_routes.specs.Values.{OfferValue}
use Rattle.best_ways.specs.Values.{WayValue}
use Rattle.best_ways.proofs.WayLemmas.{ways_have}
use Rattle.routing_table.specs.AreaLsas.{lsas_in}
use Rattle.routing_table.specs.Tables.{result_in, results_in}
use Rattle.route_laws.specs.AllWays.{all_offers, ways_in, ways_within}
use Rattle.route_laws.specs.BestRoutes.{AreBestRoutes}
use Rattle.route_laws.proofs.Groups.{HasBestOf, best_of_both, best_of_group, best_of_none, best_stays, by_way, through}

-- a rank within an area, which its cost alone determines
abbrev IsWithin : Rank → Type 0
IsWithin r = r ≡ record { path = Intra; cost2 = 0; class = 0; cost = r.cost }

-- an area's best ways, as offers and as they are, are the same candidates
same_candidates : (area : AreaId) (es : List (Net × WayValue)) → All (λ (e : Net × WayValue). IsWithin e.1.rank) es
    → map (λ e. intra_candidate area (offer_of e)) es ≡ map (by_way area) es
same_candidates area [] a = refl
same_candidates area (e ∷ es) a =
    let first : IsWithin e.1.rank = All-head (λ (e : Net × WayValue). IsWithin e.1.rank) e es a in
    let rest = same_candidates area es (All-tail (λ (e : Net × WayValue). IsWithin e.1.rank) e es a) in
    λ i. record { key = e.0; rank = sym first i; area = Some area; hops = e.1.hops } ∷ rest i

all_within : (os : List OfferValue) → All (λ (c : Candidate Net). IsWithin c.rank) (map offer_candidate os)
all_within os = All-map (λ (c : Candidate Net). IsWithin c.rank) offer_candidate os (λ k d l. refl)

module _ (rank_total : IsTotalOrder rank_cmp) (rank_exact : CmpEqualImpliesEq rank_cmp)
    (are_best : (cs : List (Candidate Net)) → AreBestWays prefix_cmp cs (ways_of prefix_cmp cs)) where
  of_offers : (area : AreaId) (os : List OfferValue)
      → HasBestOf prefix_cmp (map (intra_candidate area) os) (map (intra_candidate area) (best_offers os))
  of_offers area os =
      let cs : List (Candidate Net) = map offer_candidate os in
      let all : map (through area) cs ≡ map (intra_candidate area) os = map-map (through area) offer_candidate os in
      let best : map (by_way area) (ways_of prefix_cmp cs) ≡ map (intra_candidate area) (best_offers os) =
      sym (map-map (intra_candidate area) offer_of (ways_of prefix_cmp cs)
      ∙ same_candidates area (ways_of prefix_cmp cs) (ways_have IsWithin prefix_cmp cs (all_within os))) in
      subst (λ (ds : List (Candidate Net)). HasBestOf prefix_cmp ds (map (intra_candidate area) (best_offers os))) all
      (subst (λ (ds : List (Candidate Net)). HasBestOf prefix_cmp (map (through area) cs) ds) best
      (best_of_group prefix_exact rank_total rank_exact cs (are_best cs) area))

  module _ (db : Lists) (router : RouterId) where
    of_area : (area : AreaHead) → HasBestOf prefix_cmp (ways_in db router area) (intra_candidates (result_in db router area))
    unfolding area_result
    of_area area = of_offers (record { 0 = area.id }) (all_offers router (reached_from router (used (lsas_in db area))))

    of_areas : (areas : List AreaHead) → HasBestOf prefix_cmp (ways_within db router areas) (flat_map intra_candidates (results_in db router areas))
    of_areas [] = best_of_none prefix_cmp
    of_areas (area ∷ areas) =
        best_of_both prefix_cmp (ways_in db router area) (intra_candidates (result_in db router area))
        (ways_within db router areas) (flat_map intra_candidates (results_in db router areas)) (of_area area) (of_areas areas)

    pub intra_routes_are_best : (areas : List AreaHead) → AreBestRoutes (ways_within db router areas) (intra_of (results_in db router areas))
    unfolding intra_of
    intra_routes_are_best areas =
        let ds : List (Candidate Net) = flat_map intra_candidates (results_in db router areas) in
        record {
          ways = ways_of prefix_cmp ds;
          best = best_stays prefix_cmp (ways_within db router areas) ds (of_areas areas) (ways_of prefix_cmp ds) (are_best ds);
          each = refl;
        }
