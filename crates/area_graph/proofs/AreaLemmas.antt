-- LSAs and their vertices, and links and the vertices that they lead to.
use Rattle.std.proofs.Common.{◌≡◌, ℕ, Bool, true, false, cond, eqb, List, Option, None, Some, refl, sym, ap, ◌∙◌, true≢false}
use Rattle.std.specs.Option.{option_map}
use Rattle.std.proofs.lemmas.Bool.{eqb-true, eq-eqb}
use Rattle.lsa_codec.specs.declared.address.Addr.{Addr}
use Rattle.lsa_codec.specs.declared.address.RouterId.{RouterId}
use Rattle.lsa_codec.specs.declared.link.Link.{Link}
use Rattle.lsa_codec.specs.declared.link.LinkKind.{LinkKind}
use Rattle.lsa_codec.specs.declared.link.LinkKind.TheVariants.{PointToPoint, Transit, Stub, Virtual, Other}
use Rattle.lsa_codec.specs.Fields.{kind_of, link_state_id_of}
use Rattle.area_graph.specs.declared.vertex.Vertex.{Vertex}
use Rattle.area_graph.specs.declared.vertex.Vertex.TheVariants.{Router, Network}
use Rattle.area_graph.specs.Vertex.{is_network}
use Rattle.area_graph.specs.Paths.{DirectedEdge}
use Rattle.area_graph.specs.Area.{is_router_lsa, vertex_of}
use Rattle.area_graph.specs.AreaEdges.{target_by, target_of, edge_over}
use Rattle.area_graph.specs.Joins.{IsRouterLsaOf, IsNetworkLsaOf, IsLinkTo}
use Rattle.area_graph.proofs.MemberLemmas.{Some-same}

-- ---- LSAs and their vertices

abbrev pub number_in : Vertex → ℕ
number_in (Router v) = v.0
number_in (Network n) = n.0

pub number_of_vertex : (lsa : List ℕ) → number_in (vertex_of lsa) ≡ link_state_id_of lsa
number_of_vertex lsa = by (is_router_lsa lsa)
  where
    by : (b : Bool) → number_in (cond b (Router (record { 0 = link_state_id_of lsa })) (Network (record { 0 = link_state_id_of lsa }))) ≡ link_state_id_of lsa
    by true = refl
    by false = refl

pub kind_of_vertex : (lsa : List ℕ) (b : Bool) → is_router_lsa lsa ≡ b → is_network (vertex_of lsa) ≡ cond b false true
kind_of_vertex lsa b is = by (is_router_lsa lsa) ∙ ap (λ t. cond t false true) is
  where
    by : (t : Bool) → is_network (cond t (Router (record { 0 = link_state_id_of lsa })) (Network (record { 0 = link_state_id_of lsa }))) ≡ cond t false true
    by true = refl
    by false = refl

pub is_router_of : (lsa : List ℕ) (r : RouterId) → vertex_of lsa ≡ Router r → is_router_lsa lsa ≡ true
is_router_of lsa r e = by (is_router_lsa lsa) refl
  where
    by : (b : Bool) → is_router_lsa lsa ≡ b → b ≡ true
    by true is = refl
    by false is = absurd (true≢false (sym (kind_of_vertex lsa false is) ∙ ap is_network e))

pub not_router_of : (lsa : List ℕ) (n : Addr) → vertex_of lsa ≡ Network n → is_router_lsa lsa ≡ false
not_router_of lsa n e = by (is_router_lsa lsa) refl
  where
    by : (b : Bool) → is_router_lsa lsa ≡ b → b ≡ false
    by false is = refl
    by true is = absurd (true≢false (sym (ap is_network e) ∙ kind_of_vertex lsa true is))

pub router_lsa_of : (lsa : List ℕ) (r : RouterId) → vertex_of lsa ≡ Router r → IsRouterLsaOf r lsa
router_lsa_of lsa r e = (eqb-true (kind_of lsa) 1 (is_router_of lsa r e), sym (number_of_vertex lsa) ∙ ap number_in e)

pub vertex_of_router : (lsa : List ℕ) (r : RouterId) → IsRouterLsaOf r lsa → vertex_of lsa ≡ Router r
vertex_of_router lsa r h =
    ap (λ (b : Bool). cond b (Router (record { 0 = link_state_id_of lsa })) (Network (record { 0 = link_state_id_of lsa }))) (eq-eqb (kind_of lsa) 1 h.0)
    ∙ ap (λ (n : ℕ). Router (record { 0 = n })) h.1

pub network_number : (lsa : List ℕ) (n : Addr) → vertex_of lsa ≡ Network n → link_state_id_of lsa ≡ n.0
network_number lsa n e = sym (number_of_vertex lsa) ∙ ap number_in e

pub not_one : (k : ℕ) → k ≡ 2 → eqb k 1 ≡ false
not_one k two = ap (λ n. eqb n 1) two

pub vertex_of_network : (lsa : List ℕ) (n : Addr) → IsNetworkLsaOf n lsa → vertex_of lsa ≡ Network n
vertex_of_network lsa n h =
    ap (λ (b : Bool). cond b (Router (record { 0 = link_state_id_of lsa })) (Network (record { 0 = link_state_id_of lsa }))) (not_one (kind_of lsa) h.0)
    ∙ ap (λ (k : ℕ). Network (record { 0 = k })) h.1

-- ---- links and the vertices that they lead to

pub link_to : (link : Link) (t : Vertex) → target_of link ≡ Some t → IsLinkTo t link
link_to link t h = by link.kind refl t h
  where
    by : (k : LinkKind) → link.kind ≡ k → (t : Vertex) → target_by k link.id ≡ Some t → IsLinkTo t link
    by PointToPoint is (Router w) h = (is, ap number_in (Some-same h))
    by PointToPoint is (Network n) h = absurd (true≢false (sym (ap is_network (Some-same h))))
    by Transit is (Router w) h = absurd (true≢false (ap is_network (Some-same h)))
    by Transit is (Network n) h = (is, ap number_in (Some-same h))
    by Stub is t h = absurd (cc)
    by Virtual is t h = absurd (cc)
    by (Other code) is t h = absurd (cc)

pub target_from : (link : Link) (t : Vertex) → IsLinkTo t link → target_of link ≡ Some t
target_from link (Router w) h = ap (λ (k : LinkKind). target_by k link.id) h.0 ∙ ap (λ (n : ℕ). Some (Router (record { 0 = n }))) h.1
target_from link (Network n) h = ap (λ (k : LinkKind). target_by k link.id) h.0 ∙ ap (λ (k : ℕ). Some (Network (record { 0 = k }))) h.1

-- the properties of an edge over a link
pub over_is : (v : Vertex) (link : Link) (e : DirectedEdge Vertex) → edge_over v link ≡ Some e
    → (e.from ≡ v) × (target_of link ≡ Some e.to) × (link.metric ≡ e.cost) × (link.link_data ≡ e.link_data)
over_is v link e h = by (target_of link) refl h
  where
    by : (o : Option Vertex) → target_of link ≡ o → option_map
        (λ w. let f : DirectedEdge Vertex = record { from = v; to = w; cost = link.metric; link_data = link.link_data } in f) o ≡ Some e
        → (e.from ≡ v) × (target_of link ≡ Some e.to) × (link.metric ≡ e.cost) × (link.link_data ≡ e.link_data)
    by None is h = absurd (cc)
    by (Some w) is h =
        let same = Some-same h in (
          sym (ap (λ (f : DirectedEdge Vertex). f.from) same),
          is
              ∙ ap (λ (f : DirectedEdge Vertex). Some f.to) same,
          ap (λ (f : DirectedEdge Vertex). f.cost) same,
          ap
              (λ (f : DirectedEdge Vertex). f.link_data) same,
        )

pub over_from : (v w : Vertex) (link : Link) → target_of link ≡ Some w
    → edge_over v link ≡ Some (record { from = v; to = w; cost = link.metric; link_data = link.link_data })
over_from v w link h = ap (λ (o : Option Vertex). option_map
    (λ u. let f : DirectedEdge Vertex = record { from = v; to = u; cost = link.metric; link_data = link.link_data } in f) o) h
