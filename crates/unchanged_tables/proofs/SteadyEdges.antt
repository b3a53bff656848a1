-- Steady changes of an area's LSAs leave its edges as they are, except for slack ones.
use Rattle.std.proofs.Common.{◌≡◌, ℕ, ◌+◌, ◌<◌, ◌≤◌, Bool, true, cond, not, eqb, ltb, List, [], map, Option, None, Some, refl, sym, ap, ◌∙◌}
use Rattle.std.proofs.Common.{subst, arith, ◌⊎◌, inl, inr, ⊎_elim}
use Rattle.std.specs.Prelude.{◌&&◌, ◌||◌, IfSome, IsSomeAnd}
use Rattle.std.specs.List.{AllZip, Contains, filter, filter_map, flat_map, list_any}
use Rattle.std.specs.Option.{option_map}
use Rattle.std.proofs.lemmas.Bool.{eqb-true}
use Rattle.lsa_codec.specs.declared.link.Link.{Link}
use Rattle.lsa_codec.specs.Fields.{kind_of, link_state_id_of, advertising_router_of}
use Rattle.lsa_codec.specs.Key.{is_at_max_age}
use Rattle.lsa_codec.specs.Links.{links_of}
use Rattle.lsa_codec.specs.Views.{attached_of}
use Rattle.area_graph.specs.declared.vertex.Vertex.{Vertex}
use Rattle.area_graph.specs.declared.vertex.Vertex.TheVariants.{Router, Network}
use Rattle.area_graph.specs.Vertex.{is_same, is_network}
use Rattle.area_graph.specs.Paths.{DirectedEdge}
use Rattle.area_graph.specs.AllPaths.{distance_of}
use Rattle.area_graph.specs.Area.{is_network_lsa, is_outranked_by, is_router_lsa, is_vertex_lsa, used, vertex_lsas, vertex_of}
use Rattle.area_graph.specs.AreaEdges.{area_edges, back, edge_over, edges_over, is_returned, named_by, names, router_edges, router_links, target_by, target_of}
use Rattle.area_graph.proofs.AllPathsLemmas.{IsDistance-distance_of}
use Rattle.area_graph.proofs.MemberLemmas.{Contains-from_In, In-from_Contains, Some-same}
use Rattle.unchanged_tables.specs.Slack.{AreSteadyLsas, DistanceOf, IsSlack, IsSlackLink, IsSteadyLink, IsSteadyLsa}
use Rattle.area_graph.proofs.ZipLemmas.{AreBoth, left-In, right-In, same-filter_map, zip-any, zip-append, zip-filter, zip-filter_map}
use Rattle.area_graph.proofs.ZipLemmas.{zip-flat_map, zip-itself, zip-map}
use Rattle.unchanged_tables.proofs.SteadyPaths.{AreSteadyEdges, IsNoFarther, IsTight, no_farther}

-- an edge before and after a change: the same, except for its cost where it is slack before and
-- after
pub record IsSteadyEdge (distance : DistanceOf) (old new : DirectedEdge Vertex) : Type 0 where
  pub from : new.from ≡ old.from
  pub to : new.to ≡ old.to
  pub link_data : new.link_data ≡ old.link_data
  pub cost : (new.cost ≡ old.cost) ⊎ (IsSlack distance old × IsSlack distance new)

-- what is the same in each LSA before and after
pub record IsAlike (old new : List ℕ) : Type 0 where
  pub kind : kind_of new ≡ kind_of old
  pub id : link_state_id_of new ≡ link_state_id_of old
  pub adv : advertising_router_of new ≡ advertising_router_of old
  pub age : is_at_max_age new ≡ is_at_max_age old

pub same_vertex : (old new : List ℕ) → IsAlike old new → vertex_of new ≡ vertex_of old
same_vertex old new s = λ i. cond (eqb (s.kind i) 1) (Router (record { 0 = s.id i })) (Network (record { 0 = s.id i }))

module _ (distance : DistanceOf) where
  -- an LSA before and after a change
  abbrev pub IsSteady : List ℕ → List ℕ → Type 0
  IsSteady old new = (new ≡ old) ⊎ IsSteadyLsa distance old new

  pub alike : (old new : List ℕ) → IsSteady old new → IsAlike old new
  alike old new (inl p) = record { kind = ap kind_of p; id = ap link_state_id_of p; adv = ap advertising_router_of p; age = ap is_at_max_age p }
  alike old new (inr s) = record {
    kind = eqb-true (kind_of new) 1 s.is_router ∙ sym (eqb-true (kind_of old) 1 s.was_router);
    id = s.id;
    adv = s.adv;
    age = s.age;
  }

  -- ---- the LSAs in use

  same_is_vertex : (old new : List ℕ) → IsSteady old new → is_vertex_lsa new ≡ is_vertex_lsa old
  same_is_vertex old new h = let s = alike old new h in λ i. not (s.age i) && (eqb (s.kind i) 1 || eqb (s.kind i) 2)

  same_rank : (a b c d : List ℕ) → IsSteady a b → IsSteady c d → is_outranked_by b d ≡ is_outranked_by a c
  same_rank a b c d h k =
      let s = alike a b h in
      let t = alike c d k in
      λ i. eqb (s.kind i) 2 && (eqb (t.kind i) 2 && (eqb (t.id i) (s.id i) && ltb (s.adv i) (t.adv i)))

  pub steady_used : (lsas others : List (List ℕ)) → AreSteadyLsas distance lsas others → AllZip IsSteady (used lsas) (used others)
  unfolding used
  steady_used lsas others steady =
      let live = zip-filter IsSteady is_vertex_lsa is_vertex_lsa same_is_vertex lsas others steady in
      zip-filter IsSteady (λ lsa. not (list_any (is_outranked_by lsa) (vertex_lsas lsas))) (λ lsa. not (list_any (is_outranked_by lsa) (vertex_lsas others)))
      (λ a b h. ap not (zip-any IsSteady (is_outranked_by a) (is_outranked_by b) (λ c d k. same_rank a b c d h k) (vertex_lsas lsas) (vertex_lsas others) live))
      (vertex_lsas lsas) (vertex_lsas others) live

  -- ---- the edges over links

  abbrev over : Vertex → Link → Vertex → DirectedEdge Vertex
  over v link w = record { from = v; to = w; cost = link.metric; link_data = link.link_data }

  slack_over : (v w : Vertex) (link : Link) → target_of link ≡ Some w → IsSlackLink distance v link → IsSlack distance (over v link w)
  slack_over v w link is slack = subst (λ (o : Option Vertex). IsSomeAnd (option_map (over v link) o) (IsSlack distance)) is slack

  pub same_target : (v : Vertex) (old new : Link) → IsSteadyLink distance v old new → target_of new ≡ target_of old
  same_target v old new s = λ i. target_by (s.kind i) (s.id i)

  steady_over : (v : Vertex) (old new : Link) → IsSteadyLink distance v old new → AreBoth (IsSteadyEdge distance) (edge_over v old) (edge_over v new)
  steady_over v old new s =
      subst (λ (o : Option Vertex). AreBoth (IsSteadyEdge distance) (edge_over v old) (option_map (over v new) o))
      (sym (same_target v old new s)) (by (target_of old) refl)
    where
      cost : (w : Vertex) → target_of old ≡ Some w → (new.metric ≡ old.metric) ⊎ (IsSlackLink distance v old × IsSlackLink distance v new)
          → (new.metric ≡ old.metric) ⊎ (IsSlack distance (over v old w) × IsSlack distance (over v new w))
      cost w is (inl p) = inl p
      cost w is (inr both) = inr (slack_over v w old is both.0, slack_over v w new (same_target v old new s ∙ is) both.1)

      by : (o : Option Vertex) → target_of old ≡ o → AreBoth (IsSteadyEdge distance) (option_map (over v old) o) (option_map (over v new) o)
      by None is = tt
      by (Some w) is = record { from = refl; to = refl; link_data = s.link_data; cost = cost w is s.metric }

  itself : (e : DirectedEdge Vertex) → IsSteadyEdge distance e e
  itself e = record { from = refl; to = refl; link_data = refl; cost = inl refl }

  routers_links : (lsa : List ℕ) → is_router_lsa lsa ≡ true → router_links lsa ≡ links_of lsa
  routers_links lsa is = ap (λ (b : Bool). cond b (links_of lsa) []) is

  pub steady_links : (old new : List ℕ) → IsSteadyLsa distance old new
      → AllZip (IsSteadyLink distance (vertex_of old)) (router_links old) (router_links new)
  steady_links old new s =
      subst (λ (links : List Link). AllZip (IsSteadyLink distance (vertex_of old)) (router_links old) links) (sym (routers_links new s.is_router))
      (subst (λ (links : List Link). AllZip (IsSteadyLink distance (vertex_of old)) links (links_of new)) (sym (routers_links old s.was_router)) s.links)

  steady_edges_over : (old new : List ℕ) → IsSteady old new → AllZip (IsSteadyEdge distance) (edges_over old) (edges_over new)
  steady_edges_over old new (inl p) = subst (λ (lsa : List ℕ). AllZip (IsSteadyEdge distance) (edges_over old) (edges_over lsa)) (sym p)
      (zip-itself (IsSteadyEdge distance) itself (edges_over old))
  steady_edges_over old new (inr s) =
      subst (λ (v : Vertex). AllZip (IsSteadyEdge distance) (edges_over old) (filter_map (edge_over v) (router_links new)))
      (sym (same_vertex old new (alike old new (inr s))))
      (zip-filter_map (IsSteadyLink distance (vertex_of old)) (IsSteadyEdge distance) (edge_over (vertex_of old)) (edge_over (vertex_of old))
      (steady_over (vertex_of old)) (router_links old) (router_links new)
      (steady_links old new s))

  -- ---- the edges whose other end links back

  same_named : (old new : List ℕ) → IsSteady old new → named_by new ≡ named_by old
  same_named old new (inl p) = ap named_by p
  same_named old new (inr s) = routers new s.is_router ∙ targets ∙ sym (routers old s.was_router)
    where
      routers : (lsa : List ℕ) → is_router_lsa lsa ≡ true → named_by lsa ≡ filter_map target_of (links_of lsa)
      routers lsa is = ap (λ (b : Bool). cond b (filter_map target_of (links_of lsa))
          (cond (is_network_lsa lsa) (map (λ router. Router router) (attached_of lsa)) [])) is

      targets : filter_map target_of (links_of new) ≡ filter_map target_of (links_of old)
      targets = same-filter_map (IsSteadyLink distance (vertex_of old)) target_of target_of (same_target (vertex_of old)) (links_of old) (links_of new) s.links

  same_names : (v w : Vertex) (old new : List ℕ) → IsSteady old new → names v w new ≡ names v w old
  same_names v w old new h =
      let vertex = same_vertex old new (alike old new h) in
      let named = same_named old new h in
      λ i. is_same (vertex i) v && list_any (λ x. is_same x w) (named i)

  module _ (lsas others : List (List ℕ)) (steady : AllZip IsSteady lsas others) where
    same_returned : (e f : DirectedEdge Vertex) → IsSteadyEdge distance e f → is_returned others f ≡ is_returned lsas e
    same_returned e f s =
        zip-any IsSteady (names f.to f.from) (names f.to f.from) (same_names f.to f.from) lsas others steady
        ∙ (λ i. list_any (names (s.to i) (s.from i)) lsas)

    steady_router_edges : AllZip (IsSteadyEdge distance) (router_edges lsas) (router_edges others)
    steady_router_edges = zip-filter (IsSteadyEdge distance) (is_returned lsas) (is_returned others) same_returned (flat_map edges_over lsas)
        (flat_map edges_over others) (zip-flat_map IsSteady (IsSteadyEdge distance) edges_over edges_over steady_edges_over lsas others steady)

    steady_back : (e f : DirectedEdge Vertex) → IsSteadyEdge distance e f → IsSteadyEdge distance (back e) (back f)
    steady_back e f s = record { from = s.to; to = s.from; link_data = s.link_data; cost = inl refl }

    pub steady_edges : AllZip (IsSteadyEdge distance) (area_edges lsas) (area_edges others)
    unfolding area_edges
    steady_edges =
        let inward : DirectedEdge Vertex → Bool = λ e. is_network e.to in
        zip-append (IsSteadyEdge distance) (router_edges lsas) (map back (filter inward (router_edges lsas)))
        (router_edges others) (map back (filter inward (router_edges others))) steady_router_edges
        (zip-map (IsSteadyEdge distance) (IsSteadyEdge distance) back back steady_back (filter inward (router_edges lsas)) (filter inward (router_edges others))
        (zip-filter (IsSteadyEdge distance) inward inward (λ e f s. ap is_network s.to) (router_edges lsas) (router_edges others) steady_router_edges))

-- ---- over such edges the distances and hops stay

same_edge : (distance : DistanceOf) (e f : DirectedEdge Vertex) → IsSteadyEdge distance e f → f.cost ≡ e.cost → f ≡ e
same_edge distance e f s same = λ i. record { from = s.from i; to = s.to i; cost = same i; link_data = s.link_data i }

-- where the start of a slack edge is reached, its end is nearer than over the edge
slack_is_nearer : (distance : DistanceOf) (e : DirectedEdge Vertex) (a : ℕ) → IsSlack distance e → distance e.from ≡ Some a
    → (b : ℕ) × (distance e.to ≡ Some b) × (b < a + e.cost)
slack_is_nearer distance e a slack from = by (distance e.to) refl
    (subst (λ (o : Option ℕ). IfSome o (λ near. IsSomeAnd (distance e.to) (λ far. far < near + e.cost))) from slack)
  where
    by : (o : Option ℕ) → distance e.to ≡ o → IsSomeAnd o (λ far. far < a + e.cost) → (b : ℕ) × (distance e.to ≡ Some b) × (b < a + e.cost)
    by None is h = absurd h
    by (Some b) is h = (b, is, h)

not_tight : (distance : DistanceOf) (e : DirectedEdge Vertex) → IsSlack distance e → IsTight distance e → ⊥
not_tight distance e slack (a, from, to) =
    let r = slack_is_nearer distance e a slack from in
    let same : r.0 ≡ a + e.cost = Some-same (sym r.1 ∙ to) in
    let less : r.0 < a + e.cost = r.2 in
    absurd (omega arith)

module _ (root : Vertex) (olds news : List (DirectedEdge Vertex)) (steady : AllZip (IsSteadyEdge (λ v. distance_of olds root v)) olds news) where
  abbrev distances : DistanceOf
  distances v = distance_of olds root v

  pub are_steady_edges : AreSteadyEdges distances olds news
  are_steady_edges = record { near = near; there = there; back = back_again }
    where
      near_over : (e f : DirectedEdge Vertex) (a : ℕ) → Contains olds e → IsSteadyEdge distances e f → distances f.from ≡ Some a
          → (f.cost ≡ e.cost) ⊎ (IsSlack distances e × IsSlack distances f) → (b : ℕ) × (distances f.to ≡ Some b) × (b ≤ a + f.cost)
      near_over e f a old s from (inl same) =
          no_farther root distances (λ x. Contains olds x) (λ v. IsDistance-distance_of olds root v) f a
          (subst (λ (x : DirectedEdge Vertex). Contains olds x) (sym (same_edge distances e f s same)) old) from
      near_over e f a old s from (inr slack) =
          let r = slack_is_nearer distances f a slack.1 from in
          let less : r.0 < a + f.cost = r.2 in
          (r.0, r.1, omega arith)

      near : IsNoFarther distances (λ e. Contains news e)
      near f a edge from =
          let r = right-In (IsSteadyEdge distances) olds news steady f (In-from_Contains news f edge) in
          near_over r.0 f a (Contains-from_In olds r.0 r.1) r.2 from (r.2).cost

      there : (e : DirectedEdge Vertex) → Contains olds e → IsTight distances e → Contains news e
      there e edge tight =
          let r = left-In (IsSteadyEdge distances) olds news steady e (In-from_Contains olds e edge) in
          ⊎_elim
          (λ same. subst (λ (x : DirectedEdge Vertex). Contains news x) (same_edge distances e r.0 r.2 same) (Contains-from_In news r.0 r.1))
          (λ slack. absurd (not_tight distances e slack.0 tight))
          (r.2).cost

      back_again : (f : DirectedEdge Vertex) → Contains news f → IsTight distances f → Contains olds f
      back_again f edge tight =
          let r = right-In (IsSteadyEdge distances) olds news steady f (In-from_Contains news f edge) in
          ⊎_elim
          (λ same. subst (λ (x : DirectedEdge Vertex). Contains olds x) (sym (same_edge distances r.0 f r.2 same)) (Contains-from_In olds r.0 r.1))
          (λ slack. absurd (not_tight distances f slack.1 tight))
          (r.2).cost
