-- `area_edges` has exactly the edges that `Joins` defines.
use Rattle.std.proofs.Common.{◌≡◌, ℕ, Bool, true, false, cond, List, [], map, Some, refl, sym, ap, ◌∙◌, subst, ⊎_elim, true≢false}
use Rattle.std.specs.Prelude.{◌↔◌}
use Rattle.std.specs.List.{Contains, flat_map, filter, filter_map, list_any}
use Rattle.std.proofs.lemmas.Bool.{and_parts, and_from, eqb-true, eq-eqb}
use Rattle.lsa_codec.specs.declared.address.Addr.{Addr}
use Rattle.lsa_codec.specs.declared.address.RouterId.{RouterId}
use Rattle.lsa_codec.specs.Fields.{kind_of, link_state_id_of}
use Rattle.lsa_codec.specs.Links.{links_of}
use Rattle.lsa_codec.specs.Views.{attached_of}
use Rattle.area_graph.specs.declared.vertex.Vertex.{Vertex}
use Rattle.area_graph.specs.declared.vertex.Vertex.TheVariants.{Router, Network}
use Rattle.area_graph.specs.Vertex.{is_same, is_network}
use Rattle.area_graph.specs.Paths.{DirectedEdge}
use Rattle.area_graph.specs.Area.{is_router_lsa, is_network_lsa, vertex_of}
use Rattle.area_graph.specs.AreaEdges.{target_of, named_by, names, edge_over, router_links, edges_over, is_returned, router_edges, back, area_edges}
use Rattle.area_graph.specs.Joins.{IsRouterLsaOf, HasLink, HasLinkTo, Lists, Joins}
use Rattle.area_graph.proofs.MemberLemmas.{In, In-from_Contains, Contains-from_In, In-left, In-right, In-cases, In-map, map-In, In-flat_map}
use Rattle.area_graph.proofs.MemberLemmas.{flat_map-In, In-filter, filter-In, In-filter_map, filter_map-In, list_any-In, In-list_any}
use Rattle.area_graph.proofs.AllPathsLemmas.{same_from_is_same, is_same-from}
use Rattle.area_graph.proofs.AreaLemmas.{network_number, not_one, not_router_of, router_lsa_of, vertex_of_router, vertex_of_network, link_to}
use Rattle.area_graph.proofs.AreaLemmas.{target_from, over_is, over_from}

-- ---- naming a vertex

module _ (lsas : List (List ℕ)) where
  abbrev pub Returned : Vertex → Vertex → Type 0
  Returned (Router w) v = HasLinkTo lsas w v
  Returned (Network n) (Router x) = Lists lsas n x
  Returned (Network n) (Network m) = ⊥

  -- what an LSA names, by its kind
  named_by_router : (lsa : List ℕ) → kind_of lsa ≡ 1 → named_by lsa ≡ filter_map target_of (links_of lsa)
  named_by_router lsa one = ap (λ b. cond b (filter_map target_of (links_of lsa))
      (cond (is_network_lsa lsa) (map (λ router. Router router) (attached_of lsa)) [])) (eq-eqb (kind_of lsa) 1 one)

  named_by_network : (lsa : List ℕ) → kind_of lsa ≡ 2 → named_by lsa ≡ map (λ router. Router router) (attached_of lsa)
  named_by_network lsa two =
      ap (λ b. cond b (filter_map target_of (links_of lsa)) (cond (is_network_lsa lsa) (map (λ router. Router router) (attached_of lsa)) []))
      (not_one (kind_of lsa) two)
      ∙ ap (λ b. cond b (map (λ router. Router router) (attached_of lsa)) []) (eq-eqb (kind_of lsa) 2 two)

  router_or : RouterId → Vertex → RouterId
  router_or r (Router s) = s
  router_or r (Network n) = r

  -- an LSA of one vertex that names another
  named-by : (v w : Vertex) (lsa : List ℕ) → In lsas lsa → vertex_of lsa ≡ v → In (named_by lsa) w → Returned v w
  unfolding router_or
  named-by (Router r) w lsa there of named =
      let is = router_lsa_of lsa r of in
      let link = filter_map-In target_of (links_of lsa) w (subst (λ (ns : List Vertex). In ns w) (named_by_router lsa is.0) named) in (
        (link.0).metric,
        (link.0).link_data,
        (
          lsa,
          link.0,
          Contains-from_In lsas lsa there,
          is,
          Contains-from_In
              (links_of lsa) link.0 link.1,
          link_to link.0 w link.2,
          refl,
          refl,
        ),
      )
  named-by (Network n) w lsa there of named = by_kind (is_network_lsa lsa) refl w named
    where
      by_kind : (b : Bool) → is_network_lsa lsa ≡ b → (w : Vertex) → In (named_by lsa) w → Returned (Network n) w
      by_kind false is w named =
          absurd (subst (λ (ns : List Vertex). In ns w)
          (ap (λ b. cond b (filter_map target_of (links_of lsa)) (cond (is_network_lsa lsa) (map (λ router. Router router) (attached_of lsa)) []))
          (not_router_of lsa n of) ∙ ap (λ b. cond b (map (λ router. Router router) (attached_of lsa)) []) is) named)
      by_kind true is (Router x) named =
          let two = eqb-true (kind_of lsa) 2 is in
          let router = map-In (λ router. Router router) (attached_of lsa) (Router x)
          (subst (λ (ns : List Vertex). In ns (Router x)) (named_by_network lsa two) named) in (
            lsa,
            Contains-from_In lsas lsa there,
            (two, network_number lsa n of),
            Contains-from_In (attached_of lsa) x
                (subst (λ (r : RouterId). In (attached_of lsa) r) (ap (router_or x) router.2) router.1),
          )
      by_kind true is (Network m) named =
          let two = eqb-true (kind_of lsa) 2 is in
          let router = map-In (λ router. Router router) (attached_of lsa) (Network m)
          (subst (λ (ns : List Vertex). In ns (Network m)) (named_by_network lsa two) named) in
          absurd (true≢false (sym (ap is_network router.2)))

  returned-from : (v w : Vertex) → list_any (names v w) lsas ≡ true → Returned v w
  returned-from v w h =
      let r = list_any-In (names v w) lsas h in
      let parts = and_parts (is_same (vertex_of r.0) v) (list_any (λ named. is_same named w) (named_by r.0)) r.2 in
      let n = list_any-In (λ named. is_same named w) (named_by r.0) parts.1 in
      named-by v w r.0 r.1 (same_from_is_same (vertex_of r.0) v parts.0) (subst (λ (u : Vertex). In (named_by r.0) u) (same_from_is_same n.0 w n.2) n.1)

  names-from : (v w : Vertex) (lsa : List ℕ) → In lsas lsa → vertex_of lsa ≡ v → In (named_by lsa) w → list_any (names v w) lsas ≡ true
  names-from v w lsa there of named =
      In-list_any (names v w) lsas lsa there
      (and_from (is_same (vertex_of lsa) v) (list_any (λ named. is_same named w) (named_by lsa)) (is_same-from (vertex_of lsa) v of)
      (In-list_any (λ named. is_same named w) (named_by lsa) w named (is_same-from w w refl)))

  is_returned-from : (v w : Vertex) → Returned v w → list_any (names v w) lsas ≡ true
  is_returned-from (Router r) w (cost, d, (lsa, link, there, of, l, to, m, c)) =
      names-from (Router r) w lsa (In-from_Contains lsas lsa there) (vertex_of_router lsa r of)
      (subst (λ (ns : List Vertex). In ns w) (sym (named_by_router lsa of.0))
      (In-filter_map target_of (links_of lsa) link w (In-from_Contains (links_of lsa) link l) (target_from link w to)))
  is_returned-from (Network n) (Router x) (lsa, there, of, attached) =
      names-from (Network n) (Router x) lsa (In-from_Contains lsas lsa there) (vertex_of_network lsa n of)
      (subst (λ (ns : List Vertex). In ns (Router x)) (sym (named_by_network lsa of.0))
      (In-map (λ router. Router router) (attached_of lsa) x (In-from_Contains (attached_of lsa) x attached)))
  is_returned-from (Network n) (Network m) h = absurd h

  -- ---- edges out of routers

  -- an edge out of a router, to a vertex that links back
  abbrev IsOut : DirectedEdge Vertex → Type 0
  IsOut e = (r : RouterId) × (e.from ≡ Router r) × HasLink lsas r e.to e.cost e.link_data × Returned e.to e.from

  -- a link of a router-LSA
  has_link : (lsa : List ℕ) (e : DirectedEdge Vertex) → In lsas lsa → In (edges_over lsa) e
      → (r : RouterId) × (e.from ≡ Router r) × HasLink lsas r e.to e.cost e.link_data
  has_link lsa e there i = by (is_router_lsa lsa) refl
    where
      by : (b : Bool) → is_router_lsa lsa ≡ b → (r : RouterId) × (e.from ≡ Router r) × HasLink lsas r e.to e.cost e.link_data
      by false is =
          let link = filter_map-In (edge_over (vertex_of lsa)) (router_links lsa) e i in
          absurd (subst (λ b. In (cond b (links_of lsa) []) link.0) is link.1)
      by true is =
          let link = filter_map-In (edge_over (vertex_of lsa)) (router_links lsa) e i in
          let over = over_is (vertex_of lsa) link.0 e link.2 in
          let r : RouterId = record { 0 = link_state_id_of lsa } in
          let of : IsRouterLsaOf r lsa = (eqb-true (kind_of lsa) 1 is, refl) in (
            r,
            over.0 ∙ vertex_of_router lsa r of,
            (
              lsa,
              link.0,
              Contains-from_In lsas lsa there,
              of,
              Contains-from_In (links_of lsa) link.0
                  (subst (λ b. In (cond b (links_of lsa) []) link.0) is link.1),
              link_to link.0 e.to over.1,
              over.2,
              over.3,
            ),
          )

  out-from : (e : DirectedEdge Vertex) → In (router_edges lsas) e → IsOut e
  out-from e i =
      let kept = filter-In (is_returned lsas) (flat_map edges_over lsas) e i in
      let lsa = flat_map-In edges_over lsas e kept.0 in
      let link = has_link lsa.0 e lsa.1 lsa.2 in
      (link.0, link.1, link.2, returned-from e.to e.from kept.1)

  out-in : (r : RouterId) (w : Vertex) (cost : ℕ) (d : Addr) → HasLink lsas r w cost d → Returned w (Router r)
      → In (router_edges lsas) (record { from = Router r; to = w; cost = cost; link_data = d })
  out-in r w cost d (lsa, link, there, of, l, to, m, c) returned =
      let e : DirectedEdge Vertex = record { from = Router r; to = w; cost = cost; link_data = d } in
      let made : edge_over (vertex_of lsa) link ≡ Some e = ap (λ v. edge_over v link) (vertex_of_router lsa r of)
      ∙ over_from (Router r) w link (target_from link w to)
      ∙ (λ i. let f : DirectedEdge Vertex = record { from = Router r; to = w; cost = m i; link_data = c i } in Some f) in
      In-filter (is_returned lsas) (flat_map edges_over lsas) e
      (In-flat_map edges_over lsas lsa e (In-from_Contains lsas lsa there)
      (In-filter_map (edge_over (vertex_of lsa)) (router_links lsa) link e
      (subst (λ b. In (cond b (links_of lsa) []) link) (sym (eq-eqb (kind_of lsa) 1 of.0)) (In-from_Contains (links_of lsa) link l)) made))
      (is_returned-from w (Router r) returned)

  out-joins : (r : RouterId) (w : Vertex) (cost : ℕ) (d : Addr) → HasLink lsas r w cost d → Returned w (Router r) → Joins lsas (Router r) w cost d
  out-joins r (Router w) cost d link returned = (link, returned)
  out-joins r (Network n) cost d link returned = (link, returned)

  joins-from : (v w : Vertex) (cost : ℕ) (d : Addr) → IsOut (record { from = v; to = w; cost = cost; link_data = d }) → Joins lsas v w cost d
  joins-from v w cost d (r, is, link, returned) =
      subst (λ (x : Vertex). Joins lsas x w cost d) (sym is) (out-joins r w cost d link (subst (λ (x : Vertex). Returned w x) is returned))

  joins-back : (v w : Vertex) (cost : ℕ) (d : Addr) → is_network w ≡ true → IsOut (record { from = v; to = w; cost = cost; link_data = d }) → Joins lsas w v 0 d
  joins-back v (Router w) cost d h out = absurd (true≢false (sym h))
  joins-back v (Network n) cost d h (r, is, link, returned) =
      subst (λ (x : Vertex). Joins lsas (Network n) x 0 d) (sym is) (refl, (cost, link), subst (λ (x : Vertex). Returned (Network n) x) is returned)

  -- ---- all edges

  abbrev pub IsJoined : DirectedEdge Vertex → Type 0
  IsJoined e = Joins lsas e.from e.to e.cost e.link_data

  joined-from : (e : DirectedEdge Vertex) → In (area_edges lsas) e → IsJoined e
  unfolding area_edges
  joined-from e i =
      ⊎_elim
      (λ out. joins-from e.from e.to e.cost e.link_data (out-from e out))
      (λ turned.
      (let f = map-In back (filter (λ e. is_network e.to) (router_edges lsas)) e turned in
      let kept = filter-In (λ (e : DirectedEdge Vertex). is_network e.to) (router_edges lsas) f.0 f.1 in
      subst (λ (g : DirectedEdge Vertex). IsJoined g) f.2 (joins-back (f.0).from (f.0).to (f.0).cost (f.0).link_data kept.1 (out-from f.0 kept.0))))
      (In-cases (router_edges lsas) (map back (filter (λ e. is_network e.to) (router_edges lsas))) e i)

  in-joined : (v w : Vertex) (cost : ℕ) (d : Addr) → Joins lsas v w cost d → In (area_edges lsas) (record { from = v; to = w; cost = cost; link_data = d })
  unfolding area_edges
  in-joined (Router v) (Router w) cost d (link, there) = In-left (router_edges lsas) (map back (filter (λ e. is_network e.to) (router_edges lsas))) _
      (out-in v (Router w) cost d link there)
  in-joined (Router v) (Network n) cost d (link, there) = In-left (router_edges lsas) (map back (filter (λ e. is_network e.to) (router_edges lsas))) _
      (out-in v (Network n) cost d link there)
  in-joined (Network n) (Router x) cost d (free, (metric, link), attached) =
      let e : DirectedEdge Vertex = record { from = Router x; to = Network n; cost = metric; link_data = d } in
      In-right (router_edges lsas) (map back (filter (λ e. is_network e.to) (router_edges lsas))) _
      (subst (λ (c : ℕ). In (map back (filter (λ e. is_network e.to) (router_edges lsas)))
      (record { from = Network n; to = Router x; cost = c; link_data = d })) (sym free)
      (In-map back (filter (λ e. is_network e.to) (router_edges lsas)) e
      (In-filter (λ (e : DirectedEdge Vertex). is_network e.to) (router_edges lsas) e (out-in x (Network n) metric d link attached) refl)))
  in-joined (Network n) (Network m) cost d h = absurd h

  -- the list and the set
  pub Contains-area_edges : (e : DirectedEdge Vertex) → Contains (area_edges lsas) e ↔ Joins lsas e.from e.to e.cost e.link_data
  Contains-area_edges e = (
    λ h. joined-from e (In-from_Contains (area_edges lsas) e h),
    λ j. Contains-from_In (area_edges lsas) e (in-joined e.from e.to e.cost e.link_data j),
  )
