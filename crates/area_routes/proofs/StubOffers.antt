-- What the stub links of an area offer is what the routers that are reached offer.
use Rattle.std.proofs.Common.{◌≡◌, ℕ, ◌+◌, List, [], ◌∷◌, ◌++◌, length, cond, Option, None, Some, refl, sym, ap, ◌∙◌, arith}
use Rattle.std.proofs.Common.{append_assoc}
use Rattle.std.specs.Prelude.{eqb, suc}
use Rattle.std.specs.List.{filter_map, flat_map, cons_option, slice_get}
use Rattle.std.specs.Option.{option_map}
use Rattle.std.proofs.lemmas.List.{append-nil}
use Rattle.std.proofs.lemmas.List.Elements.{filter_map-append}
use Rattle.lsa_codec.specs.declared.address.RouterId.{RouterId}
use Rattle.lsa_codec.specs.declared.link.Link.{Link}
use Rattle.lsa_codec.specs.Fields.{link_state_id_of}
use Rattle.lsa_codec.specs.Links.{stub_net}
use Rattle.lsa_codec.specs.Prefix.{Net}
use Rattle.area_graph.specs.declared.vertex.Vertex.{Vertex}
use Rattle.area_graph.specs.Area.{vertex_of}
use Rattle.area_graph.specs.AreaEdges.{router_links}
use Rattle.next_hops.specs.declared.hop.Hop.{Hop}
use Rattle.next_hops.specs.declared.hop.Hop.TheVariants.{Connected}
use Rattle.area_routes.specs.declared.stub_links.StubLink.{StubLink}
use Rattle.area_routes.specs.Reached.{reached_by}
use Rattle.area_routes.specs.StubLinks.{stub_link, stub_links_from, stub_links_of}
use Rattle.area_routes.specs.Stubs.{stub_offer, stubs_of}
use Rattle.area_routes.specs.Values.{OfferValue}

-- ---- the links of one more vertex

pub one_more : (n : ℕ) (lsas : List (List ℕ)) (lsa : List ℕ)
    → stub_links_from n (lsas ++ lsa ∷ []) ≡ stub_links_from n lsas ++ stub_links_of (n + length lsas) lsa
unfolding stub_links_from
one_more n [] lsa = append-nil (stub_links_of n lsa) ∙ ap (λ (k : ℕ). stub_links_of k lsa) (omega arith)
one_more n (x ∷ lsas) lsa =
    ap (λ (l : List StubLink). stub_links_of n x ++ l) (one_more (n + 1) lsas lsa)
    ∙ sym (append_assoc (stub_links_of n x) (stub_links_from (n + 1) lsas) _)
    ∙ ap (λ (k : ℕ). (stub_links_of n x ++ stub_links_from (n + 1) lsas) ++ stub_links_of k lsa) (omega arith)

-- ---- what they offer, by any distances and hops of numbers

module _ (root : RouterId) (D : ℕ → Option ℕ) (H : ℕ → List Hop) where
  abbrev over : StubLink → Option OfferValue
  over link = option_map (λ d. record {
    net = link.net;
    cost = d + link.metric;
    hops = cond (eqb link.router.0 root.0) (Connected ∷ []) (H link.vertex);
  }) (D link.vertex)

  module _ (n : ℕ) (lsa : List ℕ) where
    -- a link of a vertex that is not reached offers nothing
    none_of : D n ≡ None → (links : List Link) → filter_map over (filter_map (stub_link n lsa) links) ≡ []
    none_of none [] = refl
    none_of none (link ∷ links) = by (stub_net link) (none_of none links)
      where
        by : (o : Option Net) → filter_map over (filter_map (stub_link n lsa) links) ≡ []
            → filter_map over (cons_option (option_map (λ net. record {
              net = net;
              metric = link.metric;
              vertex = n;
              router = record { 0 = link_state_id_of lsa };
            }) o) (filter_map (stub_link n lsa) links)) ≡ []
        by None rest = rest
        by (Some net) rest = λ i. cons_option (option_map (λ d. record {
          net = net;
          cost = d + link.metric;
          hops = cond (eqb (link_state_id_of lsa) root.0) (Connected ∷ []) (H n);
        }) (none i)) (rest i)

    -- a link of a router that is reached offers what the router offers
    some_of : (d : ℕ) (hops : List Hop) → D n ≡ Some d → H n ≡ hops → (links : List Link)
        → filter_map over (filter_map (stub_link n lsa) links) ≡ filter_map (stub_offer root (record { lsa = lsa; distance = d; hops = hops })) links
    some_of d hops ds hs [] = refl
    some_of d hops ds hs (link ∷ links) = by (stub_net link) (some_of d hops ds hs links)
      where
        by : (o : Option Net)
            → filter_map over (filter_map (stub_link n lsa) links) ≡ filter_map (stub_offer root (record { lsa = lsa; distance = d; hops = hops })) links
            → filter_map over (cons_option (option_map (λ net. record {
              net = net;
              metric = link.metric;
              vertex = n;
              router = record { 0 = link_state_id_of lsa };
            }) o) (filter_map (stub_link n lsa) links))
            ≡ cons_option (option_map (λ net. record {
              net = net;
              cost = d + link.metric;
              hops = cond (eqb (link_state_id_of lsa) root.0) (Connected ∷ []) hops;
            }) o)
            (filter_map (stub_offer root (record { lsa = lsa; distance = d; hops = hops })) links)
        by None rest = rest
        by (Some net) rest = λ i. cons_option (option_map (λ x. record {
          net = net;
          cost = x + link.metric;
          hops = cond (eqb (link_state_id_of lsa) root.0) (Connected ∷ []) (hs i);
        }) (ds i)) (rest i)

  module _ (distance : Vertex → Option ℕ) (first : Vertex → List Hop) where
    -- from a number on the vertices have these distances and hops
    abbrev Fit : ℕ → List (List ℕ) → Type 0
    Fit n lsas = (k : ℕ) (lsa : List ℕ) → slice_get lsas k ≡ Some lsa → (D (n + k) ≡ distance (vertex_of lsa)) × (H (n + k) ≡ first (vertex_of lsa))

    pub offers_from : (lsas : List (List ℕ)) (n : ℕ) → Fit n lsas
        → filter_map over (stub_links_from n lsas) ≡ flat_map (stubs_of root) (filter_map (reached_by distance first) lsas)
    unfolding stub_links_from
    offers_from [] n fit = refl
    offers_from (lsa ∷ lsas) n fit =
        filter_map-append over (stub_links_of n lsa) (stub_links_from (n + 1) lsas)
        ∙ ap (λ (l : List OfferValue). filter_map over (stub_links_of n lsa) ++ l) (offers_from lsas (n + 1) after)
        ∙ by (distance (vertex_of lsa)) (at_n ∙ here.0)
      where
        n_is : n ≡ n + 0
        n_is = omega arith

        here : (D (n + 0) ≡ distance (vertex_of lsa)) × (H (n + 0) ≡ first (vertex_of lsa))
        here = fit 0 lsa refl

        at_n : D n ≡ D (n + 0)
        at_n = ap D n_is

        after : Fit (n + 1) lsas
        after k x at = let moved : (n + 1) + k ≡ n + suc k = omega arith in
            let there = fit (suc k) x at in
            (ap D moved ∙ there.0, ap H moved ∙ there.1)

        by : (o : Option ℕ) → D n ≡ o
            → filter_map over (stub_links_of n lsa) ++ flat_map (stubs_of root) (filter_map (reached_by distance first) lsas)
            ≡ flat_map (stubs_of root) (cons_option (option_map (λ d. record { lsa = lsa; distance = d; hops = first (vertex_of lsa) }) o)
            (filter_map (reached_by distance first) lsas))
        by None none = ap (λ (l : List OfferValue). l ++ flat_map (stubs_of root) (filter_map (reached_by distance first) lsas))
            (none_of n lsa none (router_links lsa))
        by (Some d) some = ap (λ (l : List OfferValue). l ++ flat_map (stubs_of root) (filter_map (reached_by distance first) lsas))
            (some_of n lsa d (first (vertex_of lsa)) some (ap H n_is ∙ here.1) (router_links lsa))
