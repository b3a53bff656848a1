-- The rows of a graph to which the edges over the links of all LSAs were added, both ways, are those of the area.
use Rattle.std.proofs.Common.{◌≡◌, ℕ, Bool, true, false, cond, not, List, [], ◌∷◌, ◌++◌, map, refl, sym, ap, ◌∙◌, subst, inl, inr, ⊎_elim, true≢false}
use Rattle.std.specs.List.{flat_map, filter, list_any}
use Rattle.std.proofs.lemmas.Bool.{and_parts}
use Rattle.std.proofs.lemmas.List.{append-nil}
use Rattle.std.proofs.lemmas.List.Elements.{filter-append}
use Rattle.lsa_codec.specs.declared.link.Link.{Link}
use Rattle.lsa_codec.specs.Links.{links_of}
use Rattle.area_graph.specs.declared.vertex.Vertex.{Vertex}
use Rattle.area_graph.specs.declared.vertex.Vertex.TheVariants.{Router, Network}
use Rattle.area_graph.specs.Vertex.{is_same, is_network}
use Rattle.area_graph.specs.Paths.{DirectedEdge}
use Rattle.area_graph.specs.Area.{is_router_lsa, vertex_of}
use Rattle.area_graph.specs.AreaEdges.{names, named_by, edge_over, router_links, edges_over, is_returned, router_edges, back, area_edges}
use Rattle.area_graph.specs.Rows.{is_out_of}
use Rattle.area_graph.specs.steps.Drafts.{both_ways, over_lsas}
use Rattle.area_graph.proofs.MemberLemmas.{In, In-cases, In-map, map-In, flat_map-In, filter-In, filter_map-In, list_any-In}
use Rattle.area_graph.proofs.AllPathsLemmas.{same_from_is_same}
use Rattle.area_graph.proofs.AreaLemmas.{over_is, kind_of_vertex}

-- ---- the ends of edges are vertices

module _ (lsas : List (List ℕ)) where
  abbrev vertices : List Vertex
  vertices = map vertex_of lsas

  is_vertex : (lsa : List ℕ) (v : Vertex) → In lsas lsa → vertex_of lsa ≡ v → In vertices v
  is_vertex lsa v there is = subst (λ (u : Vertex). In vertices u) is (In-map vertex_of lsas lsa there)

  -- an edge out of a router has both its ends, and leads out of a router
  record IsOut (f : DirectedEdge Vertex) : Type 0 where
    from : In vertices f.from
    to : In vertices f.to
    router : is_network f.from ≡ false

  out : (f : DirectedEdge Vertex) → In (router_edges lsas) f → IsOut f
  out f i =
      let kept = filter-In (is_returned lsas) (flat_map edges_over lsas) f i in
      let lsa = flat_map-In edges_over lsas f kept.0 in
      let link = filter_map-In (edge_over (vertex_of lsa.0)) (router_links lsa.0) f lsa.2 in
      let first = (over_is (vertex_of lsa.0) link.0 f link.2).0 in
      let other = list_any-In (names f.to f.from) lsas kept.1 in
      let parts = and_parts (is_same (vertex_of other.0) f.to) (list_any (λ named. is_same named f.from) (named_by other.0)) other.2 in
      record {
        from = is_vertex lsa.0 f.from lsa.1 (sym first);
        to = is_vertex other.0 f.to other.1 (same_from_is_same (vertex_of other.0) f.to parts.0);
        router = ap is_network first ∙ of_router lsa.0 link.0 link.1 (is_router_lsa lsa.0) refl;
      }
    where
      of_router : (lsa : List ℕ) (link : Link) → In (router_links lsa) link → (b : Bool) → is_router_lsa lsa ≡ b → is_network (vertex_of lsa) ≡ false
      of_router lsa link i true is = kind_of_vertex lsa true is
      of_router lsa link i false is = absurd (subst (λ (b : Bool). In (cond b (links_of lsa) []) link) is i)

  -- both ends of each edge are vertices
  pub ends : (e : DirectedEdge Vertex) → In (area_edges lsas) e → In vertices e.from × In vertices e.to
  unfolding area_edges
  ends e i =
      ⊎_elim
      (λ j. (let o = out e j in (o.from, o.to)))
      (λ turned.
      (let f = map-In back (filter (λ e. is_network e.to) (router_edges lsas)) e turned in
      let o = out f.0 (filter-In (λ (e : DirectedEdge Vertex). is_network e.to) (router_edges lsas) f.0 f.1).0 in
      subst (λ (g : DirectedEdge Vertex). In vertices g.from × In vertices g.to) f.2 (o.to, o.from)))
      (In-cases (router_edges lsas) (map back (filter (λ e. is_network e.to) (router_edges lsas))) e i)

-- ---- edges out of routers, with those back between them or after them

other_kind : (u v : Vertex) (b : Bool) → is_network u ≡ b → is_network v ≡ not b → is_same u v ≡ false
other_kind (Router x) (Router y) b h k = absurd (differ b h k)
  where
    differ : (b : Bool) → false ≡ b → false ≡ not b → ⊥
    differ true h k = true≢false (sym h)
    differ false h k = true≢false (sym k)
other_kind (Router x) (Network y) b h k = refl
other_kind (Network x) (Router y) b h k = refl
other_kind (Network x) (Network y) b h k = absurd (differ b h k)
  where
    differ : (b : Bool) → true ≡ b → true ≡ not b → ⊥
    differ true h k = true≢false k
    differ false h k = true≢false h

abbrev to_networks : List (DirectedEdge Vertex) → List (DirectedEdge Vertex)
to_networks es = filter (λ e. is_network e.to) es

module _ (v : Vertex) where
  abbrev outs : List (DirectedEdge Vertex) → List (DirectedEdge Vertex)
  outs es = filter (is_out_of v) es

  outs-skip : (e : DirectedEdge Vertex) (es : List (DirectedEdge Vertex)) → is_same e.from v ≡ false → outs (e ∷ es) ≡ outs es
  outs-skip e es h = ap (λ (b : Bool). cond b (e ∷ outs es) (outs es)) h

  module _ (router : is_network v ≡ false) where
    both-router : (e : DirectedEdge Vertex) (b : Bool) → is_network e.to ≡ b → outs (cond b (e ∷ back e ∷ []) (e ∷ [])) ≡ outs (e ∷ [])
    both-router e false is = refl
    both-router e true is =
        let skip = outs-skip (back e) [] (other_kind e.to v true is router) in
        ap (λ (es : List (DirectedEdge Vertex)). cond (is_out_of v e) (e ∷ es) es) skip

    outs-router : (es : List (DirectedEdge Vertex)) → outs (flat_map both_ways es) ≡ outs es
    outs-router [] = refl
    outs-router (e ∷ es) =
        filter-append (is_out_of v) (both_ways e) (flat_map both_ways es)
        ∙ (λ i. both-router e (is_network e.to) refl i ++ outs-router es i)
        ∙ sym (filter-append (is_out_of v) (e ∷ []) es)

    backs-router : (es : List (DirectedEdge Vertex)) → outs (map back (to_networks es)) ≡ []
    backs-router [] = refl
    backs-router (e ∷ es) = by (is_network e.to) refl (backs-router es)
      where
        by : (b : Bool) → is_network e.to ≡ b → outs (map back (to_networks es)) ≡ [] → outs (map back (cond b (e ∷ to_networks es) (to_networks es))) ≡ []
        by false is rest = rest
        by true is rest = outs-skip (back e) (map back (to_networks es)) (other_kind e.to v true is router) ∙ rest

  module _ (network : is_network v ≡ true) where
    both-network : (e : DirectedEdge Vertex) → is_network e.from ≡ false → (b : Bool)
        → outs (cond b (e ∷ back e ∷ []) (e ∷ [])) ≡ outs (map back (cond b (e ∷ []) []))
    both-network e from false = outs-skip e [] (other_kind e.from v false from network)
    both-network e from true = outs-skip e (back e ∷ []) (other_kind e.from v false from network)

    fronts-network : (es : List (DirectedEdge Vertex)) → ((e : DirectedEdge Vertex) → In es e → is_network e.from ≡ false) → outs es ≡ []
    fronts-network [] from = refl
    fronts-network (e ∷ es) from = outs-skip e es (other_kind e.from v false (from e (inl refl)) network) ∙ fronts-network es (λ f i. from f (inr i))

    outs-network : (es : List (DirectedEdge Vertex)) → ((e : DirectedEdge Vertex) → In es e → is_network e.from ≡ false)
        → outs (flat_map both_ways es) ≡ outs (map back (to_networks es))
    outs-network [] from = refl
    outs-network (e ∷ es) from =
        filter-append (is_out_of v) (both_ways e) (flat_map both_ways es)
        ∙ (λ i. both-network e (from e (inl refl)) (is_network e.to) i ++ outs-network es (λ f j. from f (inr j)) i)
        ∙ by (is_network e.to)
      where
        by : (b : Bool) → outs (map back (cond b (e ∷ []) [])) ++ outs (map back (to_networks es)) ≡ outs
            (map back (cond b (e ∷ to_networks es) (to_networks es)))
        by false = refl
        by true = sym (filter-append (is_out_of v) (back e ∷ []) (map back (to_networks es)))

  -- those out of one vertex are in the same order
  same_outs : (es : List (DirectedEdge Vertex)) → ((e : DirectedEdge Vertex) → In es e → is_network e.from ≡ false) → (b : Bool) → is_network v ≡ b
      → outs (flat_map both_ways es) ≡ outs (es ++ map back (to_networks es))
  same_outs es from false router =
      outs-router router es ∙ sym (append-nil (outs es)) ∙ ap (λ (xs : List (DirectedEdge Vertex)). outs es ++ xs) (sym (backs-router router es))
      ∙ sym (filter-append (is_out_of v) es (map back (to_networks es)))
  same_outs es from true network =
      outs-network network es from ∙ ap (λ (xs : List (DirectedEdge Vertex)). xs ++ outs (map back (to_networks es)))
      (sym (fronts-network network es from)) ∙ sym (filter-append (is_out_of v) es (map back (to_networks es)))

-- what was added over the links of all LSAs are the edges of the area, vertex by vertex
pub over_lsas-outs : (lsas : List (List ℕ)) (links_back : Vertex → Vertex → Bool) → ((v w : Vertex) → links_back v w ≡ list_any (names v w) lsas)
    → (v : Vertex) → filter (is_out_of v) (over_lsas links_back lsas) ≡ filter (is_out_of v) (area_edges lsas)
unfolding area_edges
over_lsas-outs lsas links_back back_links v =
    ap (λ (p : DirectedEdge Vertex → Bool). filter (is_out_of v) (flat_map both_ways (filter p (flat_map edges_over lsas)))) (λ i e. back_links e.to e.from i)
    ∙ same_outs v (router_edges lsas) (λ e i. (out lsas e i).router) (is_network v) refl
