-- The owners of an address over a router's interface: by the rows of vertices, and by all edges.
use Rattle.std.proofs.Common.{◌≡◌, ℕ, Bool, true, false, cond, eqb, List, [], ◌++◌, Option, None, Some, refl, sym, ap, ◌∙◌, subst}
use Rattle.std.specs.Prelude.{◌&&◌}
use Rattle.std.specs.List.{Contains, filter_map, flat_map, slice_get}
use Rattle.std.specs.Option.{option_and_then, option_map_or}
use Rattle.std.proofs.lemmas.Bool.{and_from, and_parts, eq-eqb}
use Rattle.std.proofs.lemmas.List.{append-nil}
use Rattle.lsa_codec.specs.Order.{router_cmp}
use Rattle.lsa_codec.specs.declared.address.Addr.{Addr}
use Rattle.lsa_codec.specs.declared.address.RouterId.{RouterId}
use Rattle.lsa_codec.proofs.OrderLemmas.{router_exact, router_total}
use Rattle.area_graph.specs.declared.edge.Edge.{Edge}
use Rattle.area_graph.specs.declared.vertex.Vertex.{Vertex}
use Rattle.area_graph.specs.declared.vertex.Vertex.TheVariants.{Router}
use Rattle.area_graph.specs.Paths.{DirectedEdge}
use Rattle.area_graph.specs.Rising.{rising}
use Rattle.area_graph.specs.Topology.{Topology, IsEdge, IsTopology, row_at}
use Rattle.area_graph.specs.Vertex.{is_network, is_same}
use Rattle.area_graph.proofs.AllPathsLemmas.{is_same-from, same_from_is_same}
use Rattle.area_graph.proofs.MemberLemmas.{In, Contains-from_In, In-filter_map, In-flat_map, In-from_Contains, In-list_any, filter_map-In, flat_map-In}
use Rattle.area_graph.proofs.MemberLemmas.{list_any-In}
use Rattle.area_graph.proofs.TopologyLemmas.{one_number}
use Rattle.hop_ends.specs.Owners.{joins, leaves, other_than, owner, router_at}
use Rattle.hop_ends.specs.steps.Rows.{HasEdges, joins_over, owner_over, owners_over, target_of}
use Rattle.hop_ends.proofs.FarEnds.{there_at}
use Rattle.hop_ends.proofs.RisingMembersLemmas.{both_parts, same_members}

module _ (t : Topology) (shape : IsTopology t) (edges : List (DirectedEdge Vertex)) (has : HasEdges t edges) (router : RouterId) (interface address : Addr) where
  -- an edge out of the interface
  record IsOut (e : DirectedEdge Vertex) : Type 0 where
    edge : IsEdge t e
    from : e.from ≡ Router router
    data_is : eqb e.link_data.0 interface.0 ≡ true

  out_of : (e : DirectedEdge Vertex) → In edges e → leaves router interface e ≡ true → IsOut e
  out_of e i h =
      let parts = and_parts (is_same e.from (Router router)) (eqb e.link_data.0 interface.0) h in record {
        edge = (has e).1 (Contains-from_In edges e i);
        from = same_from_is_same e.from (Router router) parts.0;
        data_is = parts.1;
      }

  -- what an edge of `owner` says: its parts
  record IsOwnerOver (e : DirectedEdge Vertex) (n : RouterId) : Type 0 where
    out : DirectedEdge Vertex
    is_out : IsOut out
    meets : out.to ≡ e.from
    network : is_network e.from ≡ true
    edge : IsEdge t e
    data_is : eqb e.link_data.0 address.0 ≡ true
    other : other_than router (router_at e.to) ≡ Some n

  owner_parts : (n : RouterId) → In (filter_map (owner edges router interface address) edges) n → (e : DirectedEdge Vertex) × IsOwnerOver e n
  owner_parts n i =
      let f = filter_map-In (owner edges router interface address) edges n i in
      (f.0, by f.0 f.1 (is_network (f.0).from && (eqb (f.0).link_data.0 address.0 && joins edges router interface (f.0).from)) refl f.2)
    where
      by : (e : DirectedEdge Vertex) → In edges e → (b : Bool)
          → (is_network e.from && (eqb e.link_data.0 address.0 && joins edges router interface e.from)) ≡ b
          → cond b (other_than router (router_at e.to)) None ≡ Some n → IsOwnerOver e n
      by e i false is found = absurd (cc)
      by e i true is found =
          let outer = and_parts (is_network e.from) (eqb e.link_data.0 address.0 && joins edges router interface e.from) is in
          let inner = and_parts (eqb e.link_data.0 address.0) (joins edges router interface e.from) outer.1 in
          let j = list_any-In (λ (f : DirectedEdge Vertex). leaves router interface f && is_same f.to e.from) edges inner.1 in
          let both = and_parts (leaves router interface j.0) (is_same (j.0).to e.from) j.2 in record {
            out = j.0;
            is_out = out_of j.0 j.1 both.0;
            meets = same_from_is_same (j.0).to e.from both.1;
            network = outer.0;
            edge = (has e).1 (Contains-from_In edges e i);
            data_is = inner.0;
            other = found;
          }

  module _ (index : ℕ) (here : slice_get t.vertices index ≡ Some (Router router)) where
    row_owner : (n : RouterId) → In (flat_map (owners_over t router interface address) (row_at t index)) n
        → In (filter_map (owner edges router interface address) edges) n
    row_owner n i =
        let f = flat_map-In (owners_over t router interface address) (row_at t index) n i in
        by f.0 f.1 (slice_get t.vertices (f.0).to) refl (joins_over t interface f.0) refl f.2
      where
        -- the edge to the network, and the one on to its router
        over : (e g : Edge) → In (row_at t index) e → In (row_at t e.to) g → (v w : Vertex) → slice_get t.vertices e.to ≡ Some v
            → slice_get t.vertices g.to ≡ Some w → eqb e.link_data.0 interface.0 ≡ true → is_network v ≡ true
            → eqb g.link_data.0 address.0 ≡ true → other_than router (router_at w) ≡ Some n
            → In (filter_map (owner edges router interface address) edges) n
        over e g i j v w at_v at_w own net its found =
            let de : DirectedEdge Vertex = record { from = Router router; to = v; cost = e.cost; link_data = e.link_data } in
            let dg : DirectedEdge Vertex = record { from = v; to = w; cost = g.cost; link_data = g.link_data } in
            let there_e : Contains edges de = (has de).0 (index, e.to, Contains-from_In (row_at t index) e i, here, at_v) in
            let there_g : Contains edges dg = (has dg).0 (e.to, g.to, Contains-from_In (row_at t e.to) g j, at_v, at_w) in
            let left : leaves router interface de ≡ true = and_from (eqb router.0 router.0) (eqb e.link_data.0 interface.0) (eq-eqb router.0 router.0 refl) own in
            let joined : joins edges router interface v ≡ true =
            In-list_any (λ (f : DirectedEdge Vertex). leaves router interface f && is_same f.to v) edges de (In-from_Contains edges de there_e)
            (and_from (leaves router interface de) (is_same v v) left (is_same-from v v refl)) in
            In-filter_map (owner edges router interface address) edges dg n (In-from_Contains edges dg there_g)
            (ap (λ (b : Bool). cond b (other_than router (router_at w)) None)
            (and_from (is_network v) (eqb g.link_data.0 address.0 && joins edges router interface v) net
            (and_from (eqb g.link_data.0 address.0) (joins edges router interface v) its joined)) ∙ found)

        on : (e : Edge) → In (row_at t index) e → (v : Vertex) → slice_get t.vertices e.to ≡ Some v → eqb e.link_data.0 interface.0 ≡ true
            → is_network v ≡ true → (g : Edge) → In (row_at t e.to) g → (b : Bool) → eqb g.link_data.0 address.0 ≡ b → (o : Option Vertex)
            → slice_get t.vertices g.to ≡ o → cond b (other_than router (option_and_then router_at o)) None ≡ Some n
            → In (filter_map (owner edges router interface address) edges) n
        on e i v at_v own net g j false its o at_w found = absurd (cc)
        on e i v at_v own net g j true its None at_w found = absurd (cc)
        on e i v at_v own net g j true its (Some w) at_w found = over e g i j v w at_v at_w own net its found

        by : (e : Edge) → In (row_at t index) e → (o : Option Vertex) → slice_get t.vertices e.to ≡ o → (b : Bool)
            → joins_over t interface e ≡ b → In (cond b (filter_map (owner_over t router address) (row_at t e.to)) []) n
            → In (filter_map (owner edges router interface address) edges) n
        by e i o at false is found = absurd found
        by e i None at true is found =
            let parts = and_parts (eqb e.link_data.0 interface.0) (option_map_or is_network (slice_get t.vertices e.to) false) is in
            let none : false ≡ true = sym (ap (λ (o : Option Vertex). option_map_or is_network o false) at) ∙ parts.1 in
            absurd (cc)
        by e i (Some v) at true is found =
            let parts = and_parts (eqb e.link_data.0 interface.0) (option_map_or is_network (slice_get t.vertices e.to) false) is in
            let net : is_network v ≡ true = sym (ap (λ (o : Option Vertex). option_map_or is_network o false) at) ∙ parts.1 in
            let g = filter_map-In (owner_over t router address) (row_at t e.to) n found in
            on e i v at parts.0 net g.0 g.1 (eqb (g.0).link_data.0 address.0) refl (slice_get t.vertices (g.0).to) refl g.2

    owner_row : (n : RouterId) → In (filter_map (owner edges router interface address) edges) n
        → In (flat_map (owners_over t router interface address) (row_at t index)) n
    owner_row n i = let p = owner_parts n i in by p.0 (p.1).out p.1 (p.1).is_out.edge (p.1).edge
      where
        by : (e out : DirectedEdge Vertex) (is : IsOwnerOver e n) → IsEdge t is.out → IsEdge t e
            → In (flat_map (owners_over t router interface address) (row_at t index)) n
        by e out is (a, j, arc, at_a, at_j) (b, k, on, at_b, at_k) =
            let one : a ≡ index = one_number t shape a index (Router router) (at_a ∙ ap (λ (v : Vertex). Some v) is.is_out.from) here in
            let same : b ≡ j = one_number t shape b j e.from at_b (at_j ∙ ap (λ (v : Vertex). Some v) is.meets) in
            let f : Edge = record { to = j; cost = is.out.cost; link_data = is.out.link_data } in
            let g : Edge = record { to = k; cost = e.cost; link_data = e.link_data } in
            let row : Contains (row_at t index) f = subst (λ (m : ℕ). Contains (row_at t m) f) one arc in
            let next : Contains (row_at t j) g = subst (λ (m : ℕ). Contains (row_at t m) g) same on in
            let net : option_map_or is_network (slice_get t.vertices j) false ≡ true =
            ap (λ (o : Option Vertex). option_map_or is_network o false) (at_j ∙ ap (λ (v : Vertex). Some v) is.meets) ∙ is.network in
            let owned : owner_over t router address g ≡ Some n =
            ap (λ (b : Bool). cond b (other_than router (target_of t g)) None) is.data_is
            ∙ ap (λ (o : Option Vertex). other_than router (option_and_then router_at o)) at_k ∙ is.other in
            In-flat_map (owners_over t router interface address) (row_at t index) f n (In-from_Contains (row_at t index) f row)
            (subst (λ (b : Bool). In (cond b (filter_map (owner_over t router address) (row_at t j)) []) n)
            (sym (and_from (eqb is.out.link_data.0 interface.0) (option_map_or is_network (slice_get t.vertices j) false) is.is_out.data_is net))
            (In-filter_map (owner_over t router address) (row_at t j) g n (In-from_Contains (row_at t j) g next) owned))

    -- what the rows give is what the edges give
    pub owners_pushed : (old before new : List RouterId) → new ≡ old ++ flat_map (owners_over t router interface address) (row_at t index)
        → rising router_cmp old ≡ rising router_cmp before
        → rising router_cmp new ≡ rising router_cmp (before ++ filter_map (owner edges router interface address) edges)
    owners_pushed old before new is same =
        ap (rising router_cmp) is
        ∙ both_parts router_total router_exact old before (flat_map (owners_over t router interface address) (row_at t index))
        (filter_map (owner edges router interface address) edges) same
        (same_members router_total router_exact (flat_map (owners_over t router interface address) (row_at t index))
        (filter_map (owner edges router interface address) edges) row_owner owner_row)

  module _ (absent : ¬ Contains t.vertices (Router router)) where
    no_owner : (n : RouterId) → In (filter_map (owner edges router interface address) edges) n → ⊥
    no_owner n i = let p = owner_parts n i in by (p.1).out (p.1).is_out (p.1).is_out.edge
      where
        by : (out : DirectedEdge Vertex) → IsOut out → IsEdge t out → ⊥
        by out is (a, j, arc, at_a, at_j) = absent (there_at t.vertices a (Router router) (at_a ∙ ap (λ (v : Vertex). Some v) is.from))

    -- a router that is not in the graph reaches no owners there
    pub owners_none : (old before : List RouterId) → rising router_cmp old ≡ rising router_cmp before
        → rising router_cmp old ≡ rising router_cmp (before ++ filter_map (owner edges router interface address) edges)
    owners_none old before same =
        ap (rising router_cmp) (sym (append-nil old))
        ∙ both_parts router_total router_exact old before [] (filter_map (owner edges router interface address) edges) same
        (same_members router_total router_exact [] (filter_map (owner edges router interface address) edges) (λ x i. absurd i) (λ x i. absurd (no_owner x i)))
