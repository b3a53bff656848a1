-- The far ends of a router's interface: by the row of the router's vertex, and by all edges.
use Rattle.std.proofs.Common.{◌≡◌, ℕ, Bool, true, false, cond, eqb, List, [], ◌++◌, Option, None, Some, refl, sym, ap, ◌∙◌, subst}
use Rattle.std.specs.List.{Contains, filter_map, slice_get}
use Rattle.std.specs.Option.{option_and_then}
use Rattle.std.proofs.lemmas.Bool.{and_from, and_parts, eq-eqb}
use Rattle.std.proofs.lemmas.List.{append-nil}
use Rattle.std.proofs.lemmas.Option.{get_or_from_slice_get, slice_get_within}
use Rattle.lsa_codec.specs.Order.{router_cmp}
use Rattle.lsa_codec.specs.declared.address.Addr.{Addr}
use Rattle.lsa_codec.specs.declared.address.RouterId.{RouterId}
use Rattle.lsa_codec.proofs.OrderLemmas.{router_exact, router_total}
use Rattle.area_graph.specs.declared.edge.Edge.{Edge}
use Rattle.area_graph.specs.declared.vertex.Vertex.{Vertex}
use Rattle.area_graph.specs.declared.vertex.Vertex.TheVariants.{Router}
use Rattle.area_graph.specs.Paths.{DirectedEdge}
use Rattle.area_graph.specs.Rising.{rising}
use Rattle.area_graph.specs.Topology.{Topology, IsEdge, IsTopology, row_at}
use Rattle.area_graph.specs.Vertex.{is_same}
use Rattle.area_graph.proofs.AllPathsLemmas.{same_from_is_same}
use Rattle.area_graph.proofs.MemberLemmas.{In, Contains-from_In, In-filter_map, In-from_Contains, filter_map-In}
use Rattle.area_graph.proofs.TopologyLemmas.{one_number}
use Rattle.hop_ends.specs.Owners.{far_end, leaves, router_at}
use Rattle.hop_ends.specs.steps.Rows.{HasEdges, end_over, target_of}
use Rattle.hop_ends.proofs.RisingMembersLemmas.{both_parts, same_members}

-- a vertex that has a number is there
pub there_at : (vs : List Vertex) (i : ℕ) (v : Vertex) → slice_get vs i ≡ Some v → Contains vs v
there_at vs i v at = (i, slice_get_within vs i v at, get_or_from_slice_get vs i v v at)

module _ (t : Topology) (shape : IsTopology t) (edges : List (DirectedEdge Vertex)) (has : HasEdges t edges) where
  -- the edge over the graph's numbers
  pub over : DirectedEdge Vertex → ℕ → Edge
  over e j = record { to = j; cost = e.cost; link_data = e.link_data }

  module _ (router : RouterId) (interface : Addr) where
    module _ (index : ℕ) (here : slice_get t.vertices index ≡ Some (Router router)) where
      row_end : (n : RouterId) → In (filter_map (end_over t interface) (row_at t index)) n → In (filter_map (far_end router interface) edges) n
      row_end n i =
          let f = filter_map-In (end_over t interface) (row_at t index) n i in
          by f.0 f.1 (eqb (f.0).link_data.0 interface.0) refl (slice_get t.vertices (f.0).to) refl f.2
        where
          by : (e : Edge) → In (row_at t index) e → (b : Bool) → eqb e.link_data.0 interface.0 ≡ b → (o : Option Vertex)
              → slice_get t.vertices e.to ≡ o → cond b (option_and_then router_at o) None ≡ Some n
              → In (filter_map (far_end router interface) edges) n
          by e i false is o at found = absurd (cc)
          by e i true is None at found = absurd (cc)
          by e i true is (Some v) at found =
              let de : DirectedEdge Vertex = record { from = Router router; to = v; cost = e.cost; link_data = e.link_data } in
              let there : Contains edges de = (has de).0 (index, e.to, Contains-from_In (row_at t index) e i, here, at) in
              In-filter_map (far_end router interface) edges de n (In-from_Contains edges de there)
              (ap (λ (b : Bool). cond b (router_at v) None) (and_from (eqb router.0 router.0) (eqb e.link_data.0 interface.0) (eq-eqb router.0 router.0 refl) is)
              ∙ found)

      end_row : (n : RouterId) → In (filter_map (far_end router interface) edges) n → In (filter_map (end_over t interface) (row_at t index)) n
      end_row n i =
          let f = filter_map-In (far_end router interface) edges n i in
          by f.0 ((has f.0).1 (Contains-from_In edges f.0 f.1)) (leaves router interface f.0) refl f.2
        where
          by : (e : DirectedEdge Vertex) → IsEdge t e → (b : Bool) → leaves router interface e ≡ b → cond b (router_at e.to) None ≡ Some n
              → In (filter_map (end_over t interface) (row_at t index)) n
          by e edge false is found = absurd (cc)
          by e (i, j, arc, at_from, at_to) true is found =
              let parts = and_parts (is_same e.from (Router router)) (eqb e.link_data.0 interface.0) is in
              let from : e.from ≡ Router router = same_from_is_same e.from (Router router) parts.0 in
              let one : i ≡ index = one_number t shape i index (Router router) (at_from ∙ ap (λ (v : Vertex). Some v) from) here in
              let f : Edge = record { to = j; cost = e.cost; link_data = e.link_data } in
              let row : Contains (row_at t index) f = subst (λ (k : ℕ). Contains (row_at t k) f) one arc in
              In-filter_map (end_over t interface) (row_at t index) f n (In-from_Contains (row_at t index) f row)
              (ap (λ (b : Bool). cond b (target_of t f) None) parts.1 ∙ ap (option_and_then router_at) at_to ∙ found)

      -- what the row gives is what the edges give
      pub far_ends_pushed : (old before new : List RouterId) → new ≡ old ++ filter_map (end_over t interface) (row_at t index)
          → rising router_cmp old ≡ rising router_cmp before
          → rising router_cmp new ≡ rising router_cmp (before ++ filter_map (far_end router interface) edges)
      far_ends_pushed old before new is same =
          ap (rising router_cmp) is
          ∙ both_parts router_total router_exact old before (filter_map (end_over t interface) (row_at t index))
          (filter_map (far_end router interface) edges) same
          (same_members router_total router_exact (filter_map (end_over t interface) (row_at t index))
          (filter_map (far_end router interface) edges) row_end end_row)

    module _ (absent : ¬ Contains t.vertices (Router router)) where
      no_end : (n : RouterId) → In (filter_map (far_end router interface) edges) n → ⊥
      no_end n i =
          let f = filter_map-In (far_end router interface) edges n i in
          by f.0 ((has f.0).1 (Contains-from_In edges f.0 f.1)) (leaves router interface f.0) refl f.2
        where
          by : (e : DirectedEdge Vertex) → IsEdge t e → (b : Bool) → leaves router interface e ≡ b → cond b (router_at e.to) None ≡ Some n → ⊥
          by e edge false is found = absurd (cc)
          by e (i, j, arc, at_from, at_to) true is found =
              let parts = and_parts (is_same e.from (Router router)) (eqb e.link_data.0 interface.0) is in
              let from : e.from ≡ Router router = same_from_is_same e.from (Router router) parts.0 in
              absent (there_at t.vertices i (Router router) (at_from ∙ ap (λ (v : Vertex). Some v) from))

      -- a router that is not in the graph has no far ends there
      pub far_ends_none : (old before : List RouterId) → rising router_cmp old ≡ rising router_cmp before
          → rising router_cmp old ≡ rising router_cmp (before ++ filter_map (far_end router interface) edges)
      far_ends_none old before same =
          ap (rising router_cmp) (sym (append-nil old))
          ∙ both_parts router_total router_exact old before [] (filter_map (far_end router interface) edges) same
          (same_members router_total router_exact [] (filter_map (far_end router interface) edges) (λ x i. absurd i) (λ x i. absurd (no_end x i)))
