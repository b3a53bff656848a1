-- The routers that a tree reaches, in rising order, are those to which there is a path.
use Rattle.std.proofs.Common.{◌≡◌, ℕ, Bool, List, Option, Some, None, filter, get_or, refl, sym, ap, ◌∙◌}
use Rattle.std.specs.Prelude.{is_some}
use Rattle.std.specs.List.{Contains, filter_map, slice_get}
use Rattle.std.specs.Option.{option_and_then, option_map}
use Rattle.std.proofs.lemmas.List.Kept.{AllPairs-filter}
use Rattle.std.proofs.lemmas.Option.{get_or_from_slice_get, slice_get-get_or, slice_get_within}
use Rattle.std.specs.declared.cmp.Ordering.TheVariants.{Less}
use Rattle.lsa_codec.specs.declared.address.RouterId.{RouterId}
use Rattle.lsa_codec.specs.Order.{router_cmp}
use Rattle.lsa_codec.proofs.OrderLemmas.{router_exact, router_total}
use Rattle.area_graph.specs.declared.vertex.Vertex.{Vertex}
use Rattle.area_graph.specs.declared.vertex.Vertex.TheVariants.{Router, Network}
use Rattle.area_graph.specs.Area.{used}
use Rattle.area_graph.specs.AreaEdges.{area_edges}
use Rattle.area_graph.specs.Graphs.{IsGraphOf}
use Rattle.area_graph.specs.Rising.{rising}
use Rattle.area_graph.specs.Topology.{Topology}
use Rattle.area_graph.proofs.MemberLemmas.{Contains-from_In, In, In-filter, In-filter_map, In-from_Contains, filter-In, filter_map-In}
use Rattle.area_graph.proofs.RisingLemmas.{In-rising, rising-is, rising-pairs}
use Rattle.spf.specs.Distances.{Distances, IsTreeOf, tree_of}
use Rattle.audit_areas.specs.Areas.{router_of, routers_among}
use Rattle.audit_topology.specs.Parts.{is_path_between}
use Rattle.audit_topology.specs.steps.Numbers.{router_at}
use Rattle.audit_topology.proofs.Reaching.{is_vertex, reached}

-- the vertex with a number, where that is a router
at_number : (t : Topology) (n : ℕ) (r : RouterId) → router_at t n ≡ Some r → slice_get t.vertices n ≡ Some (Router r)
at_number t n r is = by (slice_get t.vertices n) is
  where
    by : (o : Option Vertex) → option_and_then router_of o ≡ Some r → o ≡ Some (Router r)
    by None h = absurd (cc)
    by (Some (Router q)) h = ap (option_map (λ (x : RouterId). Router x)) h
    by (Some (Network q)) h = absurd (cc)

module _ (lsas : List (List ℕ)) (t : Topology) (root : RouterId) (tree : Distances) (graph : IsGraphOf lsas t)
    (of : IsTreeOf t (Router root) tree) (whole : tree ≡ tree_of t (Router root)) where
  abbrev leads : RouterId → Bool
  leads = is_path_between (area_edges (used lsas)) root

  leads_at : (r : RouterId) (n : ℕ) → slice_get t.vertices n ≡ Some (Router r) → is_some (get_or tree.distances n None) ≡ leads r
  leads_at r n at = ap is_some (reached lsas t graph (Router root) (Router r) n at tree whole)

  among : (r : RouterId) (n : ℕ) → slice_get t.vertices n ≡ Some (Router r) → In (routers_among t.vertices) r
  among r n at =
      In-rising router_total router_exact (filter_map router_of t.vertices) r
      (In-filter_map router_of t.vertices (Router r) r
      (In-from_Contains t.vertices (Router r)
      (n, slice_get_within t.vertices n (Router r) at, get_or_from_slice_get t.vertices n (Router r) (Router r) at)) refl)

  there : (r : RouterId) → Contains (filter leads (routers_among t.vertices)) r → Contains (filter_map (router_at t) tree.order) r
  there r h =
      let kept = filter-In leads (routers_among t.vertices) r (In-from_Contains (filter leads (routers_among t.vertices)) r h) in
      let v = is_vertex t.vertices r (Contains-from_In (routers_among t.vertices) r kept.0) in
      let at : slice_get t.vertices v.0 ≡ Some (Router r) = slice_get-get_or t.vertices v.0 (Router r) v.1 ∙ ap (λ (w : Vertex). Some w) v.2 in
      Contains-from_In (filter_map (router_at t) tree.order) r
      (In-filter_map (router_at t) tree.order v.0 r (In-from_Contains tree.order v.0 (of.listed v.0 (leads_at r v.0 at ∙ kept.1)))
      (ap (option_and_then router_of) at))

  back : (r : RouterId) → Contains (filter_map (router_at t) tree.order) r → Contains (filter leads (routers_among t.vertices)) r
  back r h =
      let found = filter_map-In (router_at t) tree.order r (In-from_Contains (filter_map (router_at t) tree.order) r h) in
      let at = at_number t found.0 r found.2 in
      Contains-from_In (filter leads (routers_among t.vertices)) r
      (In-filter leads (routers_among t.vertices) r (among r found.0 at)
      (sym (leads_at r found.0 at) ∙ of.settled found.0 (Contains-from_In tree.order found.0 found.1)))

  pub reached_routers : rising router_cmp (filter_map (router_at t) tree.order) ≡ filter leads (routers_among t.vertices)
  reached_routers =
      sym (rising-is router_total router_exact (filter leads (routers_among t.vertices)) (filter_map (router_at t) tree.order)
      (AllPairs-filter (λ a b. router_cmp a b ≡ Less) leads (routers_among t.vertices)
      (rising-pairs router_total router_exact (filter_map router_of t.vertices)))
      (λ r. (there r, back r)))
