-- What an area offers by its stub links in any order is what its routers and networks offer.
use Rattle.std.proofs.Common.{◌≡◌, ℕ, ◌+◌, ◌<◌, Bool, false, List, [], ◌∷◌, ◌++◌, map, length, Option, None, Some, IfSome, refl, sym, ap, ◌∙◌, arith}
use Rattle.std.specs.Prelude.{◌||◌}
use Rattle.std.specs.List.{All, filter_map, list_any, slice_get, slice_index_or}
use Rattle.std.specs.List.Sorted.{IsPermutation}
use Rattle.std.specs.Option.{option_map, option_map_or}
use Rattle.std.proofs.lemmas.List.{get_or-map, length-map, map-append}
use Rattle.std.proofs.lemmas.List.Elements.{All-append, All-nil}
use Rattle.std.proofs.lemmas.List.Folds.{list_any-append}
use Rattle.std.proofs.lemmas.List.Sorted.{All-permutation, list_any-IsPermutation}
use Rattle.std.proofs.lemmas.Option.{get_or_from_slice_get, slice_get_within}
use Rattle.lsa_codec.specs.declared.address.AreaId.{AreaId}
use Rattle.lsa_codec.specs.declared.address.RouterId.{RouterId}
use Rattle.lsa_codec.specs.declared.link.Link.{Link}
use Rattle.lsa_codec.specs.Fields.{link_state_id_of}
use Rattle.lsa_codec.specs.Links.{stub_net}
use Rattle.lsa_codec.specs.Order.{prefix_cmp}
use Rattle.lsa_codec.specs.Prefix.{Net}
use Rattle.lsa_codec.proofs.OrderLemmas.{prefix_exact, prefix_total}
use Rattle.area_graph.specs.declared.vertex.Vertex.{Vertex}
use Rattle.area_graph.specs.declared.vertex.Vertex.TheVariants.{Router}
use Rattle.area_graph.specs.AllPaths.{distance_of}
use Rattle.area_graph.specs.Area.{used, vertex_of}
use Rattle.area_graph.specs.AreaEdges.{area_edges, router_links}
use Rattle.area_graph.specs.Topology.{Topology}
use Rattle.spf.specs.Distances.{Distances}
use Rattle.next_hops.specs.declared.hop.Hop.{Hop}
use Rattle.next_hops.specs.FirstHops.{hops_at, hops_of}
use Rattle.area_routes.specs.declared.stub_links.StubLink.{StubLink}
use Rattle.area_routes.specs.AreaResults.{AreOf, area_result}
use Rattle.area_routes.specs.Entries.{area_entries}
use Rattle.best_ways.specs.Best.{ways_of}
use Rattle.best_ways.specs.Candidate.{Candidate}
use Rattle.area_routes.specs.Networks.{network_offers}
use Rattle.area_routes.specs.Offers.{best_offers, offer_candidate, offer_of}
use Rattle.area_routes.specs.Reached.{ReachedValue, reached_from}
use Rattle.area_routes.specs.StubLinks.{AreStubLinksOf, stub_link, stub_links_from, stub_links_of}
use Rattle.area_routes.specs.Stubs.{stub_offers}
use Rattle.area_routes.specs.Values.{AreaResultValue, OfferValue}
use Rattle.area_routes.specs.steps.StubCandidates.{offer_over, offers_over}
use Rattle.area_routes.proofs.Reaching.{distances_by_lsa, hops_by_lsa}
use Rattle.best_ways.proofs.WayLemmas.{All-filter_map, same_tests}
use Rattle.area_routes.proofs.StubOffers.{offers_from}

-- ---- each link is one of a vertex of the area

within_from : (lsas : List (List ℕ)) (n : ℕ) → All (λ link. link.vertex < n + length lsas) (stub_links_from n lsas)
unfolding stub_links_from
within_from [] n = All-nil (λ (link : StubLink). link.vertex < n + 0)
within_from (lsa ∷ lsas) n =
    All-append (λ (link : StubLink). link.vertex < n + length (lsa ∷ lsas)) (stub_links_of n lsa) (stub_links_from (n + 1) lsas)
    (All-filter_map (λ (link : StubLink). link.vertex < n + length (lsa ∷ lsas)) (stub_link n lsa) (λ link. by link (stub_net link)) (router_links lsa))
    (λ k d l. let h = within_from lsas (n + 1) k d l in omega arith)
  where
    by : (link : Link) (o : Option Net) → IfSome (option_map (λ net. record {
      net = net;
      metric = link.metric;
      vertex = n;
      router = record { 0 = link_state_id_of lsa };
    }) o) (λ (s : StubLink). s.vertex < n + length (lsa ∷ lsas))
    by link None = tt
    by link (Some net) = omega arith

within : (lsas : List (List ℕ)) (links : List StubLink) → AreStubLinksOf lsas links → All (λ link. link.vertex < length (used lsas)) links
within lsas links are = All-permutation (λ (link : StubLink). link.vertex < length (used lsas)) (stub_links_from 0 (used lsas)) links are
    (λ k d l. let h = within_from (used lsas) 0 k d l in omega arith)

-- ---- the order of the links does not matter for what is best

module _ (f : StubLink → Option OfferValue) (p : Candidate Net → Bool) where
  abbrev passes : StubLink → Bool
  passes link = option_map_or (λ o. p (offer_candidate o)) (f link) false

  any_offered : (links : List StubLink) → list_any p (map offer_candidate (filter_map f links)) ≡ list_any passes links
  any_offered [] = refl
  any_offered (link ∷ links) = by (f link) (any_offered links)
    where
      by : (o : Option OfferValue) → list_any p (map offer_candidate (filter_map f links)) ≡ list_any passes links
          → list_any p (map offer_candidate (Rattle.std.specs.List.cons_option o (filter_map f links)))
          ≡ (option_map_or (λ x. p (offer_candidate x)) o false || list_any passes links)
      by None rest = rest
      by (Some o) rest = ap (λ b. p (offer_candidate o) || b) rest

  any_reordered : (links others : List StubLink) → IsPermutation links others
      → list_any p (map offer_candidate (filter_map f links)) ≡ list_any p (map offer_candidate (filter_map f others))
  any_reordered links others moved = any_offered links ∙ list_any-IsPermutation passes links others moved ∙ sym (any_offered others)

-- what is best of the networks that are reached and of the stub links
abbrev pub offers_at : RouterId → List (Option ℕ) → List (List Hop) → List ReachedValue → List StubLink → List OfferValue
offers_at root distances hops reached links =
    map offer_of (ways_of prefix_cmp (map offer_candidate (network_offers reached) ++ map offer_candidate (offers_over root distances hops links)))

module _ (lsas : List (List ℕ)) (root : RouterId) (t : Topology) (tree : Distances) (hops : List (List Hop)) (are : AreOf lsas root t tree hops) where
  abbrev rs : List ReachedValue
  rs = reached_from root (used lsas)

  -- each link is one of a vertex with a distance, or without one, and with hops
  pub within_distances : (links : List StubLink) → AreStubLinksOf lsas links → All (λ link. link.vertex < length tree.distances) links
  within_distances links of =
      let each : length tree.distances ≡ length (used lsas) =
      ap (λ (ds : List (Option ℕ)). length ds) (distances_by_lsa lsas root t tree hops are) ∙ length-map (used lsas) _ in
      λ k d l. let h = within lsas links of k d l in omega arith

  pub within_hops : (links : List StubLink) → AreStubLinksOf lsas links → All (λ link. link.vertex < length hops) links
  within_hops links of =
      let each : length hops ≡ length (used lsas) = ap (λ (hs : List (List Hop)). length hs) (hops_by_lsa lsas root t tree hops are) ∙ length-map (used lsas) _ in
      λ k d l. let h = within lsas links of k d l in omega arith

  at_vertex : {X : Type 0} (g : List ℕ → X) (none : X) (xs : List X) → xs ≡ map g (used lsas) → (k : ℕ) (lsa : List ℕ) → slice_get (used lsas) k ≡ Some lsa
      → slice_index_or xs (0 + k) none ≡ g lsa
  at_vertex {X} g none xs is k lsa at =
      let first : 0 + k ≡ k = omega arith in
      let lt : k < length (used lsas) = slice_get_within (used lsas) k lsa at in
      ap (λ i. slice_index_or xs i none) first ∙ ap (λ (ys : List X). slice_index_or ys k none) is ∙ get_or-map g (used lsas) k lsa none lt
      ∙ ap g (get_or_from_slice_get (used lsas) k lsa lsa at)

  stubs_by_links : offers_over root tree.distances hops (stub_links_from 0 (used lsas)) ≡ stub_offers root rs
  stubs_by_links =
      let d : Vertex → Option ℕ = λ v. distance_of (area_edges (used lsas)) (Router root) v in
      let h : Vertex → List Hop = λ v. hops_of (area_edges (used lsas)) (Router root) v in
      offers_from root (λ i. slice_index_or tree.distances i None) (λ i. hops_at hops i) d h (used lsas) 0
      (λ k lsa at. (
        at_vertex (λ l. d (vertex_of l)) None tree.distances (distances_by_lsa lsas root t tree hops are) k lsa at,
        at_vertex (λ l. h (vertex_of l)) [] hops (hops_by_lsa lsas root t tree hops are) k lsa at,
      ))

  pub offers_of_area : (links : List StubLink) → AreStubLinksOf lsas links
      → offers_at root tree.distances hops rs links ≡ best_offers (network_offers rs ++ stub_offers root rs)
  offers_of_area links moved =
      let f = offer_over root tree.distances hops in
      let ns : List (Candidate Net) = map offer_candidate (network_offers rs) in
      let firsts : List StubLink = stub_links_from 0 (used lsas) in
      ap (map offer_of)
      (same_tests prefix_total prefix_exact (ns ++ map offer_candidate (filter_map f firsts)) (ns ++ map offer_candidate (filter_map f links))
      (λ p. list_any-append p ns (map offer_candidate (filter_map f firsts))
      ∙ ap (λ b. list_any p ns || b) (any_reordered f p firsts links moved)
      ∙ sym (list_any-append p ns (map offer_candidate (filter_map f links))))
      ∙ ap (λ (os : List OfferValue). ways_of prefix_cmp (ns ++ map offer_candidate os)) stubs_by_links
      ∙ ap (ways_of prefix_cmp) (sym (map-append offer_candidate (network_offers rs) (stub_offers root rs))))

  -- offers by the vertices that are reached and by the stub links, with the entries of these vertices, are the result of the
  -- area
  pub result_of_area : (area : AreaId) (links : List StubLink) → AreStubLinksOf lsas links → (reached : List ReachedValue) → reached ≡ rs
      → (offers : List OfferValue)
      → offers ≡ offers_at root tree.distances hops reached links
      → (built : AreaResultValue) → built ≡ record { area = area; offers = offers; entries = [] ++ area_entries area root reached }
      → built ≡ area_result area lsas root
  unfolding area_result
  result_of_area area links of reached are_reached offers best built is =
      let whole : offers ≡ best_offers (network_offers rs ++ stub_offers root rs) =
      best ∙ ap (λ (vs : List ReachedValue). offers_at root tree.distances hops vs links) are_reached ∙ offers_of_area links of in
      is ∙ (λ i. record { area = area; offers = whole i; entries = area_entries area root (are_reached i) })
