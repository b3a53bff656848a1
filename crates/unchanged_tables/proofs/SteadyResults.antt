-- Steady changes of an area's LSAs leave what a router gets from the area as it is.
use Rattle.std.proofs.Common.{◌≡◌, ℕ, ◌+◌, Bool, true, false, cond, not, eqb, List, [], ◌∷◌, ◌++◌, map, Option, None, Some, refl, sym, ap, ◌∙◌, subst, arith}
use Rattle.std.proofs.Common.{◌⊎◌, inl, inr}
use Rattle.std.specs.Prelude.{◌&&◌, IsSomeAnd}
use Rattle.std.specs.List.{All, AllZip}
use Rattle.std.specs.Option.{option_map}
use Rattle.std.proofs.lemmas.Bool.{eqb-true}
use Rattle.lsa_codec.specs.declared.address.AreaId.{AreaId}
use Rattle.lsa_codec.specs.declared.address.RouterId.{RouterId}
use Rattle.lsa_codec.specs.declared.link.Link.{Link}
use Rattle.lsa_codec.specs.declared.link.LinkKind.{LinkKind}
use Rattle.lsa_codec.specs.declared.link.LinkKind.TheVariants.{PointToPoint, Transit, Stub, Virtual, Other}
use Rattle.lsa_codec.specs.Accepted.{IsAccepted}
use Rattle.lsa_codec.specs.Fields.{kind_of}
use Rattle.lsa_codec.specs.Links.{is_stub, stub_net}
use Rattle.lsa_codec.specs.Prefix.{Net, is_mask, len_of_mask, masked}
use Rattle.area_graph.specs.declared.vertex.Vertex.{Vertex}
use Rattle.area_graph.specs.declared.vertex.Vertex.TheVariants.{Router}
use Rattle.area_graph.specs.Paths.{DirectedEdge}
use Rattle.area_graph.specs.AllPaths.{distance_of}
use Rattle.area_graph.specs.Area.{is_network_lsa, used, vertex_of}
use Rattle.area_graph.specs.AreaEdges.{area_edges, router_links, target_by}
use Rattle.area_graph.proofs.UsedLemmas.{used_accepted}
use Rattle.next_hops.specs.declared.hop.Hop.{Hop}
use Rattle.next_hops.specs.declared.hop.Hop.TheVariants.{Connected}
use Rattle.next_hops.specs.FirstHops.{hops_of}
use Rattle.area_routes.specs.AreaResults.{area_result, result_of_reached}
use Rattle.area_routes.specs.Entries.{bit_b, bit_e, entries_of, has_bit}
use Rattle.area_routes.specs.Networks.{network_offers, chosen, network_offer}
use Rattle.area_routes.specs.Offers.{best_offers}
use Rattle.area_routes.specs.Reached.{ReachedValue, reached_by, reached_from}
use Rattle.area_routes.specs.Stubs.{stub_hops, stub_offer, stubs_of}
use Rattle.area_routes.specs.Values.{EntryValue, OfferValue}
use Rattle.area_routes.specs.declared.entry.EntryKind.{EntryKind}
use Rattle.area_routes.specs.declared.entry.EntryKind.TheVariants.{Border, AsbrIntra}
use Rattle.area_routes.proofs.OverAllPathsLemmas.{NothingFree-area}
use Rattle.unchanged_tables.specs.Slack.{AreSteadyLsas, DistanceOf, IsSlack, IsSlackLink, IsSteadyLink}
use Rattle.unchanged_tables.specs.Steady.{distances_from}
use Rattle.unchanged_tables.proofs.SteadyEdges.{IsAlike, IsSteady, alike, are_steady_edges, same_vertex, steady_edges, steady_links, steady_used}
use Rattle.area_graph.proofs.ZipLemmas.{AreBoth, same-filter, same-filter_map, same-flat_map, zip-filter_map}
use Rattle.unchanged_tables.proofs.SteadyPaths.{AreSteadyEdges, same_distance, same_hops}

-- a vertex that is reached before and after a change: only its LSA changes, and only steadily
record IsSteadyReached (before : DistanceOf) (old new : ReachedValue) : Type 0 where
  lsa : IsSteady before old.lsa new.lsa
  distance : new.distance ≡ old.distance
  hops : new.hops ≡ old.hops

-- ---- the vertices that are reached

module _ (before : DistanceOf) (distance other : Vertex → Option ℕ) (hops others : Vertex → List Hop)
    (same_distances : (v : Vertex) → other v ≡ distance v) (same_hops_of : (v : Vertex) → others v ≡ hops v) where
  abbrev at_distance : (Vertex → List Hop) → List ℕ → ℕ → ReachedValue
  at_distance to lsa d = record { lsa = lsa; distance = d; hops = to (vertex_of lsa) }

  steady_reached_by : (old new : List ℕ) → IsSteady before old new
      → AreBoth (IsSteadyReached before) (reached_by distance hops old) (reached_by other others new)
  steady_reached_by old new h =
      subst (λ (o : Option ℕ). AreBoth (IsSteadyReached before) (reached_by distance hops old) (option_map (at_distance others new) o))
      (sym (same_distances (vertex_of new) ∙ ap distance vertex)) (by (distance (vertex_of old)))
    where
      vertex : vertex_of new ≡ vertex_of old
      vertex = same_vertex old new (alike before old new h)

      by : (o : Option ℕ) → AreBoth (IsSteadyReached before) (option_map (at_distance hops old) o) (option_map (at_distance others new) o)
      by None = tt
      by (Some d) = record { lsa = h; distance = refl; hops = same_hops_of (vertex_of new) ∙ ap hops vertex }

-- ---- what they give

module _ (before : DistanceOf) (root : RouterId) where
  stays : (x y : ReachedValue) → IsSteadyReached before x y → IsAlike x.lsa y.lsa
  stays x y s = alike before x.lsa y.lsa s.lsa

  -- with the same LSA it is the same
  same_reached : (x y : ReachedValue) → IsSteadyReached before x y → y.lsa ≡ x.lsa → y ≡ x
  same_reached x y s p = λ i. record { lsa = p i; distance = s.distance i; hops = s.hops i }

  -- a network-LSA stays
  same_network : (x y : ReachedValue) → IsSteadyReached before x y → is_network_lsa x.lsa ≡ true → y ≡ x
  same_network x y s network = by s.lsa
    where
      by : IsSteady before x.lsa y.lsa → y ≡ x
      by (inl p) = same_reached x y s p
      by (inr r) =
          let one : kind_of x.lsa ≡ 1 = eqb-true (kind_of x.lsa) 1 r.was_router in
          let two : kind_of x.lsa ≡ 2 = eqb-true (kind_of x.lsa) 2 network in
          absurd (omega arith)

  same_offers : (rs ss : List ReachedValue) → AllZip (IsSteadyReached before) rs ss → network_offers ss ≡ network_offers rs
  same_offers rs ss steady = ap (λ (ns : List ReachedValue). map network_offer (chosen ns))
      (same-filter (IsSteadyReached before) (λ r. is_network_lsa r.lsa) (λ x y s. (let t = stays x y s in λ i. eqb (t.kind i) 2)) same_network rs ss steady)

  -- a link of this kind leads to a vertex over a slack edge
  abbrev LeadsBy : Vertex → Link → LinkKind → Type 0
  LeadsBy v link kind =
      IsSomeAnd (option_map (λ w. let e : DirectedEdge Vertex = record { from = v; to = w; cost = link.metric; link_data = link.link_data } in e)
      (target_by kind link.id)) (IsSlack before)

  -- a link that leads to a vertex leads to no stub network
  no_stub : (v : Vertex) (link : Link) → IsSlackLink before v link → stub_net link ≡ None
  no_stub v link slack =
      ap (λ (b : Bool). cond (b && is_mask link.link_data.0) (Some (masked link.id (len_of_mask link.link_data.0))) None) (by link.kind refl)
    where
      by : (kind : LinkKind) → link.kind ≡ kind → is_stub link.kind ≡ false
      by PointToPoint is = ap is_stub is
      by Transit is = ap is_stub is
      by Stub is = absurd (subst (λ (kind : LinkKind). LeadsBy v link kind) is slack)
      by Virtual is = absurd (subst (λ (kind : LinkKind). LeadsBy v link kind) is slack)
      by (Other code) is = absurd (subst (λ (kind : LinkKind). LeadsBy v link kind) is slack)

  module _ (x y : ReachedValue) (s : IsSteadyReached before x y) where
    same_stub_hops : stub_hops root y ≡ stub_hops root x
    same_stub_hops = let t = stays x y s in λ i. cond (eqb (t.id i) root.0) (Connected ∷ []) (s.hops i)

    -- what a link to a stub network offers
    abbrev offer : ℕ → List Hop → Option Net → Option OfferValue
    offer cost hops o = option_map (λ net. let v : OfferValue = record { net = net; cost = cost; hops = hops } in v) o

    same_offer : (v : Vertex) (old new : Link) → IsSteadyLink before v old new → stub_offer root y new ≡ stub_offer root x old
    same_offer v old new l = by l.metric
      where
        net : stub_net new ≡ stub_net old
        net = λ i. cond (is_stub (l.kind i) && is_mask (l.link_data i).0) (Some (masked (l.id i) (len_of_mask (l.link_data i).0))) None

        by : (new.metric ≡ old.metric) ⊎ (IsSlackLink before v old × IsSlackLink before v new) → stub_offer root y new ≡ stub_offer root x old
        by (inl same) = λ i. offer (s.distance i + same i) (same_stub_hops i) (net i)
        by (inr slack) =
            ap (offer (y.distance + new.metric) (stub_hops root y)) (no_stub v new slack.1)
            ∙ sym (ap (offer (x.distance + old.metric) (stub_hops root x)) (no_stub v old slack.0))

    same_stubs : stubs_of root y ≡ stubs_of root x
    same_stubs = by s.lsa
      where
        by : IsSteady before x.lsa y.lsa → stubs_of root y ≡ stubs_of root x
        by (inl p) = ap (stubs_of root) (same_reached x y s p)
        by (inr r) = same-filter_map (IsSteadyLink before (vertex_of x.lsa)) (stub_offer root x) (stub_offer root y) (same_offer (vertex_of x.lsa))
            (router_links x.lsa) (router_links y.lsa) (steady_links before x.lsa y.lsa r)

  -- the entries of a router by the fields that they take
  abbrev entry : AreaId → ℕ → ℕ → ℕ → List Hop → ℕ → EntryKind → List EntryValue
  entry area id flags distance hops bit kind =
      cond (has_bit bit flags) (record { router = record { 0 = id }; area = area; kind = kind; cost = distance; hops = hops } ∷ []) []

  abbrev entries : AreaId → ℕ → ℕ → ℕ → ℕ → List Hop → List EntryValue
  entries area kind id flags distance hops =
      cond (eqb kind 1 && not (eqb id root.0)) (entry area id flags distance hops bit_b Border ++ entry area id flags distance hops bit_e AsbrIntra) []

  same_entries : (area : AreaId) (x y : ReachedValue) → IsSteadyReached before x y → entries_of area root y ≡ entries_of area root x
  same_entries area x y s = by s.lsa
    where
      by : IsSteady before x.lsa y.lsa → entries_of area root y ≡ entries_of area root x
      by (inl p) = ap (entries_of area root) (same_reached x y s p)
      by (inr r) = let t = stays x y s in λ i. entries area (t.kind i) (t.id i) (r.flags i) (s.distance i) (s.hops i)

  same_result : (area : AreaId) (rs ss : List ReachedValue) → AllZip (IsSteadyReached before) rs ss
      → result_of_reached area root ss ≡ result_of_reached area root rs
  same_result area rs ss steady =
      let offers = same_offers rs ss steady in
      let stubs = same-flat_map (IsSteadyReached before) (stubs_of root) (stubs_of root) same_stubs rs ss steady in
      let routers = same-flat_map (IsSteadyReached before) (entries_of area root) (entries_of area root) (same_entries area) rs ss steady in
      λ i. record { area = area; offers = best_offers (offers i ++ stubs i); entries = routers i }

-- ---- the whole

pub steady_result : (area : AreaId) (router : RouterId) (lsas others : List (List ℕ)) → All IsAccepted lsas → All IsAccepted others
    → AreSteadyLsas (distances_from router lsas) lsas others → area_result area others router ≡ area_result area lsas router
unfolding area_result
steady_result area router lsas others accepted still_accepted steady =
    same_result distance router area (reached_from router (used lsas)) (reached_from router (used others))
    (zip-filter_map (IsSteady distance) (IsSteadyReached distance) (reached_by distance hops) (reached_by other_distance other_hops)
    (steady_reached_by distance distance other_distance hops other_hops (same_distance (Router router) olds news edges)
    (same_hops (Router router) olds news edges (NothingFree-area (used lsas) (used_accepted lsas accepted))
    (NothingFree-area (used others) (used_accepted others still_accepted))))
    (used lsas) (used others) in_use)
  where
    olds : List (DirectedEdge Vertex)
    olds = area_edges (used lsas)

    news : List (DirectedEdge Vertex)
    news = area_edges (used others)

    distance : Vertex → Option ℕ
    distance v = distance_of (area_edges (used lsas)) (Router router) v

    other_distance : Vertex → Option ℕ
    other_distance v = distance_of (area_edges (used others)) (Router router) v

    hops : Vertex → List Hop
    hops v = hops_of (area_edges (used lsas)) (Router router) v

    other_hops : Vertex → List Hop
    other_hops v = hops_of (area_edges (used others)) (Router router) v

    in_use : AllZip (IsSteady distance) (used lsas) (used others)
    in_use = steady_used distance lsas others steady

    edges : AreSteadyEdges (λ v. distance_of olds (Router router) v) olds news
    edges = are_steady_edges (Router router) olds news (steady_edges distance (used lsas) (used others) in_use)
