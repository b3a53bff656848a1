-- The neighbors over an interface with whose link a path of least cost begins.
use Rattle.std.proofs.Common.{◌≡◌, Bool, true, false, cond, List, [], Option, None, Some, refl, sym, ap, ◌∙◌, inr, ⊎_elim}
use Rattle.std.specs.Prelude.{◌↔◌, ◌&&◌}
use Rattle.std.specs.BTreeSet.{insert_key}
use Rattle.std.specs.List.{AllPairs, Contains, filter_map, flat_map}
use Rattle.std.specs.declared.cmp.Ordering.TheVariants.{Less}
use Rattle.lsa_codec.specs.Order.{router_cmp}
use Rattle.lsa_codec.specs.declared.address.Addr.{Addr}
use Rattle.lsa_codec.specs.declared.address.RouterId.{RouterId}
use Rattle.lsa_codec.proofs.OrderLemmas.{router_exact, router_total}
use Rattle.area_graph.specs.declared.vertex.Vertex.{Vertex}
use Rattle.area_graph.specs.declared.vertex.Vertex.TheVariants.{Router}
use Rattle.area_graph.specs.Area.{used}
use Rattle.area_graph.specs.AreaEdges.{area_edges}
use Rattle.area_graph.specs.Paths.{DirectedEdge}
use Rattle.area_graph.specs.Rising.{rising}
use Rattle.area_graph.proofs.MemberLemmas.{Contains-from_In, In-filter_map, In-flat_map, In-from_Contains, Some-same, filter_map-In, flat_map-In}
use Rattle.area_graph.proofs.RisingLemmas.{rising-is}
use Rattle.least_paths.specs.LeastPaths.{edge_of, is_on_way}
use Rattle.least_paths.specs.declared.least_edge.LeastEdge.{LeastEdge}
use Rattle.route_candidates.specs.declared.target.Target.{Target}
use Rattle.area_candidates.specs.Views.{AreaViewValue, lsas_in}
use Rattle.area_candidates.proofs.InsertingLemmas.{Inserts, inserts_as, inserts_nothing, inserts_one}
use Rattle.first_ends.specs.FirstEnds.{first_end, first_ends_in, router_of, starts_over, vertices_in}
use Rattle.first_ends.specs.steps.Ends.{AreEdgesTo, IsEndOf, IsEndOver, end_over}

-- ---- one edge

module _ (old new : List RouterId) (router : RouterId) (interface : Addr) (e : LeastEdge) where
  pub one_end : (end : RouterId) → end_over router interface e ≡ Some end → new ≡ insert_key router_cmp old end
      → Inserts (IsEndOf router interface e) old new
  one_end end is made =
      inserts_as (λ k. k ≡ end) (IsEndOf router interface e) old new
      (λ k. (λ q. is ∙ ap (λ (r : RouterId). Some r) (sym q), λ p. Some-same (sym p ∙ is)))
      (inserts_one router_total router_exact end old new made)

module _ (keys : List RouterId) (router : RouterId) (interface : Addr) (e : LeastEdge) where
  pub no_end : end_over router interface e ≡ None → Inserts (IsEndOf router interface e) keys keys
  no_end none =
      inserts_nothing (IsEndOf router interface e) keys (λ k p. (let clash : None ≡ Some k = sym none ∙ p in absurd (cc)))

-- ---- an area

module _ (view : AreaViewValue) (targets : List Target) (interface : Addr) (found : List LeastEdge)
    (are : AreEdgesTo view (vertices_in view.area targets) found) where
  abbrev edges : List (DirectedEdge Vertex)
  edges = area_edges (used (lsas_in view))

  abbrev vertices : List Vertex
  vertices = vertices_in view.area targets

  abbrev first : DirectedEdge Vertex → Option RouterId
  first e = first_end edges view.router interface vertices e

  -- an edge on the way that starts there
  by_both : (e : DirectedEdge Vertex) (end : RouterId) → is_on_way edges (Router view.router) vertices e ≡ true
      → cond (starts_over view.router interface e) (router_of e.to) None ≡ Some end → first e ≡ Some end
  by_both e end way h = by (starts_over view.router interface e) (is_on_way edges (Router view.router) vertices e) way h
    where
      by : (s w : Bool) → w ≡ true → cond s (router_of e.to) None ≡ Some end → cond (s && w) (router_of e.to) None ≡ Some end
      by true true is k = k
      by true false is k = absurd (cc)
      by false w is k = absurd (cc)

  both_by : (e : DirectedEdge Vertex) (end : RouterId) → first e ≡ Some end
      → (is_on_way edges (Router view.router) vertices e ≡ true) × (cond (starts_over view.router interface e) (router_of e.to) None ≡ Some end)
  both_by e end h = by (starts_over view.router interface e) (is_on_way edges (Router view.router) vertices e) h
    where
      by : (s w : Bool) → cond (s && w) (router_of e.to) None ≡ Some end → (w ≡ true) × (cond s (router_of e.to) None ≡ Some end)
      by true true k = (refl, k)
      by true false k = absurd (cc)
      by false w k = absurd (cc)

  pub ends_in : (end : RouterId) → IsEndOver view.router interface found end ↔ Contains (first_ends_in interface targets view) end
  ends_in end = (λ h. there h, λ c. back c)
    where
      there : IsEndOver view.router interface found end → Contains (first_ends_in interface targets view) end
      there (e, in_found, is) =
          let on = are.are e in_found in
          Contains-from_In (filter_map first edges) end
          (In-filter_map first edges (edge_of e) end (In-from_Contains edges (edge_of e) on.0) (by_both (edge_of e) end on.1 is))

      back : Contains (first_ends_in interface targets view) end → IsEndOver view.router interface found end
      back c =
          let f = filter_map-In first edges end (In-from_Contains (filter_map first edges) end c) in
          let both = both_by f.0 end f.2 in
          let one = are.all f.0 (Contains-from_In edges f.0 f.1, both.0) in
          (record { from = f.0.from; to = f.0.to; cost = f.0.cost; link_data = f.0.link_data; distance = one.0 }, one.1, both.1)

-- ---- all areas

module _ (views : List AreaViewValue) (targets : List Target) (interface : Addr) (keys : List RouterId) where
  pub all_ends : AllPairs (λ a b. router_cmp a b ≡ Less) keys
      → Inserts (λ end. (view : AreaViewValue) × Contains views view × Contains (first_ends_in interface targets view) end) [] keys
      → keys ≡ rising router_cmp (flat_map (first_ends_in interface targets) views)
  all_ends sorted ins =
      let ends = flat_map (first_ends_in interface targets) views in
      rising-is router_total router_exact keys ends sorted (λ end. (
        λ h. ⊎_elim (λ none. absurd (In-from_Contains [] end none))
            (λ s. Contains-from_In ends end
            (In-flat_map (first_ends_in interface targets) views s.0 end (In-from_Contains views s.0 s.1)
            (In-from_Contains (first_ends_in interface targets s.0) end s.2))) ((ins end).0 h),
        λ h. (ins end).1 (let f = flat_map-In (first_ends_in interface targets) views end (In-from_Contains ends end h) in
            inr (f.0, Contains-from_In views f.0 f.1, Contains-from_In (first_ends_in interface targets f.0) end f.2)),
      ))
