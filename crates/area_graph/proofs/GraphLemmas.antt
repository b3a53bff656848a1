-- The graph of an area, from its parts.
use Rattle.std.proofs.Common.{◌≡◌, ◌≢◌, ℕ, ◌<◌, Bool, true, false, cond, not, eqb, List, [], ◌∷◌, map, length, get_or, Option, None, Some, refl, sym}
use Rattle.std.proofs.Common.{subst, ap, ◌∙◌, inl, inr, ⊎_elim, arith, true≢false}
use Rattle.std.specs.Prelude.{◌||◌, option_map, ◌++◌}
use Rattle.std.specs.List.{Contains, AllPairs, All, list_all, find, slice_get, position, filter, filter_map}
use Rattle.std.proofs.lemmas.List.{length-map, get_or-map, take_all}
use Rattle.std.proofs.lemmas.Option.{slice_get-get_or}
use Rattle.std.proofs.Math.ListN.{get_or-map as get_or-map-all}
use Rattle.std.proofs.lemmas.List.Elements.{All-contains}
use Rattle.std.proofs.lemmas.Bool.{cases_lt, eq-eqb}
use Rattle.lsa_codec.specs.declared.address.Addr.{Addr}
use Rattle.lsa_codec.specs.declared.address.RouterId.{RouterId}
use Rattle.lsa_codec.specs.declared.address.AreaId.{AreaId}
use Rattle.lsa_codec.specs.declared.link.Link.{Link}
use Rattle.lsa_codec.specs.Fields.{kind_of}
use Rattle.lsa_codec.specs.Key.{key_of}
use Rattle.lsa_codec.specs.Links.{links_of, has_cost}
use Rattle.lsa_codec.specs.Accepted.{IsAccepted, is_link_cost_good}
use Rattle.lsdb.specs.declared.section.Section.TheVariants.{Area}
use Rattle.lsdb.specs.Lists.{SectionLsas, Lists, IsSection, IsDatabase, AreaHead, limit_of, is_section, lsas_or_none, lsas_of}
use Rattle.area_graph.specs.declared.vertex.Vertex.{Vertex}
use Rattle.area_graph.specs.declared.vertex.Vertex.TheVariants.{Router, Network}
use Rattle.area_graph.specs.Vertex.{is_same, is_network}
use Rattle.area_graph.specs.Paths.{DirectedEdge}
use Rattle.area_graph.specs.AllPaths.{distance_of}
use Rattle.area_graph.specs.Topology.{Topology, IsEdge, row_at, edges_of}
use Rattle.area_graph.specs.Area.{used, vertex_of, vertices_of}
use Rattle.area_graph.specs.AreaEdges.{area_edges}
use Rattle.area_graph.specs.Joins.{IsLinkTo, HasLink, Joins}
use Rattle.area_graph.specs.declared.edge.Edge.{Edge}
use Rattle.area_graph.specs.Rows.{same_edge, each_once, numbered, is_out_of, row_of, rows_of}
use Rattle.area_graph.specs.steps.Naming.{naming}
use Rattle.area_graph.specs.steps.Drafts.{IsDraft, Adds, out_of, arcs_below, over_lsas, edges_once}
use Rattle.area_graph.specs.Graphs.{IsGraphOf, AreOfArea}
use Rattle.area_graph.proofs.MemberLemmas.{In, In-from_Contains, Contains-from_In, list_all-In, Some-same, In-filter, filter-In, In-filter_map}
use Rattle.area_graph.proofs.MemberLemmas.{filter_map-In, map-by_place}
use Rattle.area_graph.proofs.AllPathsLemmas.{same_from_is_same, is_same-from}
use Rattle.area_graph.proofs.VertexNumbers.{found, has_number}
use Rattle.area_graph.proofs.EachOnce.{Contains-each_once, each_once-In, each_once-distinct}
use Rattle.area_graph.proofs.JoinLemmas.{Contains-area_edges}
use Rattle.area_graph.proofs.EdgesOver.{ends, over_lsas-outs}
use Rattle.area_graph.proofs.Arcs.{arc_between, rows_same}
use Rattle.area_graph.proofs.ArcMembers.{links_back, arcs_are}
use Rattle.area_graph.proofs.UsedLemmas.{used_accepted, used_few}
use Rattle.area_graph.proofs.EdgeLemmas.{distance_of-edges}

-- ---- costs

link_has_cost : (link : Link) (t : Vertex) → IsLinkTo t link → has_cost link.kind ≡ true
link_has_cost link (Router w) h = ap has_cost h.0
link_has_cost link (Network n) h = ap has_cost h.0

-- no link of an accepted LSA to a vertex has cost 0
link_costs : (lsa : List ℕ) (link : Link) (t : Vertex) → IsAccepted lsa → kind_of lsa ≡ 1 → Contains (links_of lsa) link → IsLinkTo t link → 0 < link.metric
link_costs lsa link t accepted one c to =
    let all : list_all is_link_cost_good (links_of lsa) ≡ true =
    subst (λ b. (not b || list_all is_link_cost_good (links_of lsa)) ≡ true) (eq-eqb (kind_of lsa) 1 one) accepted.costs in
    let good : is_link_cost_good link ≡ true = list_all-In is_link_cost_good (links_of lsa) all link (In-from_Contains (links_of lsa) link c) in
    let costs : not (eqb link.metric 0) ≡ true = subst (λ b. (not b || not (eqb link.metric 0)) ≡ true) (link_has_cost link t to) good in
    ⊎_elim (λ positive. positive)
    (λ none. absurd (true≢false (sym costs ∙ ap not (eq-eqb link.metric 0 (omega arith)))))
    (cases_lt 0 link.metric)

module _ (lsas : List (List ℕ)) (accepted : All IsAccepted lsas) where
  -- no link of a router to a vertex has cost 0
  pub has_link_costs : (v : RouterId) (t : Vertex) (cost : ℕ) (d : Addr) → HasLink lsas v t cost d → 0 < cost
  has_link_costs v t cost d (lsa, link, c, of, cl, to, metric, carried) =
      subst (λ n. 0 < n) metric (link_costs lsa link t (All-contains IsAccepted lsas lsa accepted c) of.0 cl to)

  from_router : (f t : Vertex) (cost : ℕ) (d : Addr) → Joins lsas f t cost d → is_network f ≡ false → 0 < cost
  from_router (Router v) (Router w) cost d j router = has_link_costs v (Router w) cost d j.0
  from_router (Router v) (Network n) cost d j router = has_link_costs v (Network n) cost d j.0
  from_router (Network n) t cost d j router = absurd (true≢false router)

  from_network : (f t : Vertex) (cost : ℕ) (d : Addr) → Joins lsas f t cost d → is_network f ≡ true → (cost ≡ 0) × (is_network t ≡ false)
  from_network (Router v) t cost d j net = absurd (true≢false (sym net))
  from_network (Network n) (Router x) cost d j net = (j.0, refl)
  from_network (Network n) (Network m) cost d j net = absurd j

-- ---- the whole

-- a row of the graph where each edge occurs once
row_once : (t : Topology) (i : ℕ) → row_at (edges_once t) i ≡ each_once same_edge (row_at t i)
row_once t i = get_or-map-all (each_once same_edge) t.rows i []

-- a draft whose rows have the edges of the area
module _ (lsas : List (List ℕ)) (are : AreOfArea lsas) (t : Topology) (draft : IsDraft t) (vertices_are : t.vertices ≡ vertices_of lsas)
    (rows_are : (i : ℕ) (v : Vertex) → slice_get t.vertices i ≡ Some v
    → row_at t i ≡ filter_map (numbered t.vertices) (filter (is_out_of v) (area_edges (used lsas)))) where
  abbrev graph : Topology
  graph = edges_once t

  abbrev area : List (DirectedEdge Vertex)
  area = area_edges (used lsas)

  -- an edge of a row, as one of the area
  record IsOfArea (e : DirectedEdge Vertex) (o : Edge) : Type 0 where
    edge : DirectedEdge Vertex
    there : In area edge
    from : is_same edge.from e.from ≡ true
    number : numbered t.vertices edge ≡ Some o

  in_area : (i : ℕ) (e : DirectedEdge Vertex) (o : Edge) → slice_get t.vertices i ≡ Some e.from → Contains (row_at graph i) o → IsOfArea e o
  in_area i e o at_from arc =
      let row = each_once-In (row_at t i) o (subst (λ (r : List Edge). Contains r o) (row_once t i) arc) in
      let f = filter_map-In (numbered t.vertices) (filter (is_out_of e.from) area) o (subst (λ (r : List Edge). In r o) (rows_are i e.from at_from) row) in
      let kept = filter-In (is_out_of e.from) area f.0 f.1 in
      record { edge = f.0; there = kept.0; from = kept.1; number = f.2 }

  there : (e : DirectedEdge Vertex) → IsEdge graph e → Contains area e
  there e (i, j, arc, at_from, at_to) =
      let o : Edge = record { to = j; cost = e.cost; link_data = e.link_data } in
      let f = in_area i e o at_from arc in
      Contains-from_In area e (subst (λ (g : DirectedEdge Vertex). In area g) (by f (position (is_same (f.edge).to) t.vertices) refl f.number) f.there)
    where
      by : (f : IsOfArea e (record { to = j; cost = e.cost; link_data = e.link_data })) (o : Option ℕ) → position (is_same (f.edge).to) t.vertices ≡ o
          → option_map (λ to. let g : Edge = record { to = to; cost = (f.edge).cost; link_data = (f.edge).link_data } in g) o ≡ Some
          (record { to = j; cost = e.cost; link_data = e.link_data }) → f.edge ≡ e
      by f None at is = absurd (cc)
      by f (Some k) at is =
          let same = Some-same is in
          let from : (f.edge).from ≡ e.from = same_from_is_same (f.edge).from e.from f.from in
          let to : (f.edge).to ≡ e.to =
          Some-same (sym (found t.vertices (f.edge).to k at).1 ∙ ap (λ (g : Edge). slice_get t.vertices g.to) same ∙ at_to) in
          λ n. record { from = from n; to = to n; cost = (same n).cost; link_data = (same n).link_data }

  -- a vertex among those of the area has a number
  number : (v : Vertex) → In (vertices_of lsas) v → (i : ℕ) × (slice_get t.vertices i ≡ Some v) × (position (is_same v) t.vertices ≡ Some i)
  number v h =
      let c = Contains-from_In t.vertices v (subst (λ (vs : List Vertex). In vs v) (sym vertices_are) h) in
      let at : slice_get t.vertices c.0 ≡ Some v = slice_get-get_or t.vertices c.0 v c.1 ∙ ap (λ (u : Vertex). Some u) c.2 in
      let n = has_number t.vertices v v c.0 at (is_same-from v v refl) in
      (n.0, (found t.vertices v n.0 n.1).1, n.1)

  back : (e : DirectedEdge Vertex) → Contains area e → IsEdge graph e
  back e h =
      let i = In-from_Contains area e h in
      let both = ends (used lsas) e i in
      let from = number e.from both.0 in
      let to = number e.to both.1 in
      let o : Edge = record { to = to.0; cost = e.cost; link_data = e.link_data } in
      let make : ℕ → Edge = λ k. record { to = k; cost = e.cost; link_data = e.link_data } in
      let stands : In (filter_map (numbered t.vertices) (filter (is_out_of e.from) area)) o =
      In-filter_map (numbered t.vertices) (filter (is_out_of e.from) area) e o
      (In-filter (is_out_of e.from) area e i (is_same-from e.from e.from refl)) (ap (option_map make) to.2) in
      let arc = Contains-each_once (row_at t from.0) o (subst (λ (r : List Edge). In r o) (sym (rows_are from.0 e.from from.1)) stands) in
      (from.0, to.0, subst (λ (r : List Edge). Contains r o) (sym (row_once t from.0)) arc, from.1, to.1)

  in_draft : (i : ℕ) (o : Edge) → Contains (row_at graph i) o → Contains (row_at t i) o
  in_draft i o h = Contains-from_In (row_at t i) o (each_once-In (row_at t i) o (subst (λ (r : List Edge). Contains r o) (row_once t i) h))

  joins : (e : DirectedEdge Vertex) → IsEdge graph e → Joins (used lsas) e.from e.to e.cost e.link_data
  joins e h = (Contains-area_edges (used lsas) e).0 (there e h)

  rows : graph.rows ≡ rows_of lsas
  unfolding row_of
  rows = map-by_place (row_of lsas) (vertices_of lsas) graph.rows [] sized each
    where
      sized : length graph.rows ≡ length (vertices_of lsas)
      sized = length-map t.rows (each_once same_edge) ∙ draft.a_row_each ∙ ap (λ (vs : List Vertex). length vs) vertices_are

      each : (i : ℕ) (v : Vertex) → slice_get (vertices_of lsas) i ≡ Some v → get_or graph.rows i [] ≡ row_of lsas v
      each i v at =
          row_once t i
          ∙ ap (each_once same_edge) (rows_are i v (subst (λ (vs : List Vertex). slice_get vs i ≡ Some v) (sym vertices_are) at))
          ∙ ap (λ (vs : List Vertex). each_once same_edge (filter_map (numbered vs) (filter (is_out_of v) area))) vertices_are

  once : (i : ℕ) → AllPairs (λ a b. a ≢ b) (row_at graph i)
  once i = subst (λ (r : List Edge). AllPairs (λ a b. a ≢ b) r) (sym (row_once t i)) (each_once-distinct (row_at t i))

  pub is_graph : IsGraphOf lsas graph
  is_graph = record {
    vertices = vertices_are;
    rows = rows;
    edges = λ e. (there e, back e);
    once = once;
    shape = record {
      a_row_each = length-map t.rows (each_once same_edge) ∙ draft.a_row_each;
      few = (
          let sized = ap (λ (xs : List Vertex). length xs) vertices_are in
          let one = length-map (used lsas) vertex_of in
          let two = used_few lsas in
          let three = are.few in
          omega arith
          );
      distinct = draft.distinct;
      once = once;
      in_range = λ e arc. draft.in_range e (in_draft e.from (record { to = e.to; cost = e.cost; link_data = e.link_data }) arc);
      cost_below = λ e arc. draft.cost_below e (in_draft e.from (record { to = e.to; cost = e.cost; link_data = e.link_data }) arc);
      from_network = λ e h network. from_network (used lsas) (used_accepted lsas are.accepted) e.from e.to e.cost e.link_data (joins e h) network;
      from_router = λ e h router. from_router (used lsas) (used_accepted lsas are.accepted) e.from e.to e.cost e.link_data (joins e h) router;
    };
  }

-- the same, for the steps in which it is built
pub built : (lsas vertex_lsas naming_lsas : List (List ℕ)) → AreOfArea lsas → vertex_lsas ≡ used lsas → naming_lsas ≡ used lsas
    → (keys : List Vertex) → keys ≡ map vertex_of vertex_lsas → (rows : List (List Edge)) → rows ≡ map (naming keys) naming_lsas
    → (old t : Topology) → old.vertices ≡ keys → ((i : ℕ) → row_at old i ≡ []) → t.vertices ≡ old.vertices → IsDraft t
    → Adds (arcs_below old.vertices rows (length rows)) old t
    → IsGraphOf lsas (edges_once t)
built lsas vertex_lsas naming_lsas are uv un keys k rows r old t ok none tv draft adds = is_graph lsas are t draft (tv ∙ vertices_are) row
  where
    vertices_are : old.vertices ≡ vertices_of lsas
    vertices_are = ok ∙ k ∙ ap (map vertex_of) uv

    distinct : AllPairs (λ v w. v ≢ w) (vertices_of lsas)
    distinct = subst (λ (vs : List Vertex). AllPairs (λ v w. v ≢ w) vs) (tv ∙ vertices_are) draft.distinct

    rows_are : rows ≡ map (naming (vertices_of lsas)) (used lsas)
    rows_are = r ∙ (λ i. map (naming ((k ∙ ap (map vertex_of) uv) i)) (un i))

    arcs : arcs_below old.vertices rows (length rows) ≡ filter_map (arc_between (vertices_of lsas) distinct) (over_lsas (links_back (used lsas)) (used lsas))
    arcs =
        (λ i. arcs_below (vertices_are i) (rows_are i) (length rows))
        ∙ ap (arcs_below (vertices_of lsas) (map (naming (vertices_of lsas)) (used lsas)))
        (ap (λ (rs : List (List Edge)). length rs) rows_are ∙ length-map (used lsas) (naming (vertices_of lsas)))
        ∙ arcs_are (used lsas) distinct (length (used lsas)) (omega arith)
        ∙ ap (λ (ls : List (List ℕ)). filter_map (arc_between (vertices_of lsas) distinct) (over_lsas (links_back (used lsas)) ls)) (take_all (length (used lsas)) (used lsas) (omega arith))

    row : (i : ℕ) (v : Vertex) → slice_get t.vertices i ≡ Some v → row_at t i ≡ filter_map (numbered t.vertices) (filter (is_out_of v) (area_edges (used lsas)))
    row i v at =
        adds.rows i
        ∙ ap (λ (r : List Edge). r ++ out_of i (arcs_below old.vertices rows (length rows))) (none i)
        ∙ ap (out_of i) arcs
        ∙ rows_same (vertices_of lsas) distinct i v (subst (λ (vs : List Vertex). slice_get vs i ≡ Some v) (tv ∙ vertices_are) at) (over_lsas (links_back (used lsas)) (used lsas))
        ∙ ap (λ (vs : List Vertex). filter_map (numbered vs) (filter (is_out_of v) (over_lsas (links_back (used lsas)) (used lsas)))) (sym (tv ∙ vertices_are))
        ∙ ap (filter_map (numbered t.vertices)) (over_lsas-outs (used lsas) (links_back (used lsas)) (λ v w. refl) v)

-- the distances in the graph are those over the edges of the area
pub distance_of-area : (lsas : List (List ℕ)) (t : Topology) → IsGraphOf lsas t → (v w : Vertex)
    → distance_of (edges_of t) v w ≡ distance_of (area_edges (used lsas)) v w
distance_of-area lsas t graph v w = distance_of-edges t (area_edges (used lsas)) (λ e h. (graph.edges e).0 h) (λ e h. (graph.edges e).1 h) v w

-- ---- the LSAs of an area in a database

keys_distinct : (lsas : List (List ℕ)) → AllPairs (λ a b. a ≢ b) (map key_of lsas) → AllPairs (λ a b. key_of a ≢ key_of b) lsas
keys_distinct lsas pairs i j d below lt same =
    let sized = length-map lsas key_of in
    pairs i j (key_of d) below (omega arith) (get_or-map key_of lsas i d (key_of d) (omega arith) ∙ same ∙ sym (get_or-map key_of lsas j d (key_of d) lt))

of_section : (area : AreaId) (section : SectionLsas) → is_section (Area area) section ≡ true → IsSection section → AreOfArea section.lsas
of_section area section named is = record {
  accepted = is.accepted;
  distinct = keys_distinct section.lsas is.keys.distinct;
  few = (let few = is.keys.few in let sized = length-map section.lsas key_of in let limit = by section.area refl in omega arith);
}
  where
    by : (head : Option AreaHead) → section.area ≡ head → limit_of section.area ≡ 8192
    by None h = absurd (cc)
    by (Some a) h = ap limit_of h

find_In : {X : Type 0} (p : X → Bool) (xs : List X) (s : X) → find p xs ≡ Some s → In xs s × (p s ≡ true)
find_In p [] s h = absurd (cc)
find_In p (x ∷ xs) s h = by (p x) refl h (find_In p xs s)
  where
    by : (b : Bool) → p x ≡ b → cond b (Some x) (find p xs) ≡ Some s → (find p xs ≡ Some s → In xs s × (p s ≡ true)) → In (x ∷ xs) s × (p s ≡ true)
    by true is h rest = (inl (Some-same h), ap p (sym (Some-same h)) ∙ is)
    by false is h rest = (let r = rest h in (inr r.0, r.1))

nothing : AreOfArea []
nothing = record { accepted = λ k d lt. absurd (omega (arith, lt)); distinct = λ i j d below lt. absurd (omega (arith, lt)); few = omega arith }

pub are_of_area : (area : AreaId) (db : Lists) → IsDatabase db → AreOfArea (lsas_of (Area area) db)
are_of_area area db is = by (find (is_section (Area area)) db) refl
  where
    by : (o : Option SectionLsas) → find (is_section (Area area)) db ≡ o → AreOfArea (lsas_or_none o)
    by None h = nothing
    by (Some section) h =
        let found = find_In (is_section (Area area)) db section h in
        of_section area section found.1 (All-contains IsSection db section is.sections (Contains-from_In db section found.0))
