-- The graph of an area after a change of the cost of one interface: the costs in one row are replaced.
use Rattle.std.proofs.Common.{◌≡◌, ◌≢◌, ℕ, ◌<◌, ◌≤◌, ◌^◌, Bool, true, false, cond, List, [], ◌∷◌, map, length, get_or, Option, None, Some, refl, sym, ap, ◌∙◌}
use Rattle.std.proofs.Common.{subst, arith, ⊎_elim}
use Rattle.std.specs.Prelude.{AllPairs, Contains, slice_get, slice_set}
use Rattle.std.specs.List.{count_by, filter, filter_map, position}
use Rattle.std.specs.Option.{option_map}
use Rattle.std.proofs.lemmas.Bool.{cases_eq}
use Rattle.std.proofs.lemmas.List.{get_or-map, get_or-set_other, get_or-set_same, get_or_past, length-map, length-set}
use Rattle.std.proofs.lemmas.Option.{get_or_from_slice_get, slice_get_cases, slice_get_within}
use Rattle.area_graph.specs.declared.cost_change.CostChange.{CostChange}
use Rattle.area_graph.specs.declared.edge.Edge.{Edge}
use Rattle.area_graph.specs.declared.vertex.Vertex.{Vertex}
use Rattle.area_graph.specs.Vertex.{is_same}
use Rattle.area_graph.specs.Paths.{DirectedEdge}
use Rattle.area_graph.specs.Topology.{IsArc, Topology, row_at}
use Rattle.area_graph.specs.Area.{used, vertices_of}
use Rattle.area_graph.specs.AreaEdges.{area_edges}
use Rattle.area_graph.specs.CostChanges.{AreChanged}
use Rattle.area_graph.specs.Graphs.{AreOfArea, IsGraphOf}
use Rattle.area_graph.specs.Rows.{each_once, is_out_of, numbered, row_of, rows_of, same_edge}
use Rattle.area_graph.specs.steps.CostRows.{leads_to, with_cost}
use Rattle.area_graph.specs.steps.Drafts.{IsDraft}
use Rattle.area_graph.proofs.AllPathsLemmas.{same_from_is_same}
use Rattle.area_graph.proofs.ChangedEdges.{changed_edges, changed_used, priced, router, same_vertices}
use Rattle.area_graph.proofs.ChangedRows.{once-with_cost, other_row, router_row}
use Rattle.area_graph.proofs.EachOnce.{Contains-each_once}
use Rattle.area_graph.proofs.GraphLemmas.{is_graph}
use Rattle.area_graph.proofs.MemberLemmas.{Contains-from_In, In, In-from_Contains, Some-same, filter_map-In, map-In, map-by_place}
use Rattle.area_graph.proofs.UsedLemmas.{vertices_distinct, vertices_few}
use Rattle.area_graph.proofs.VertexNumbers.{at_one_place, found}

-- ---- the graph of an area, by its rows

-- the edges out of a vertex, in the order of the links
abbrev raw : List (List ℕ) → Vertex → List Edge
raw lsas v = filter_map (numbered (vertices_of lsas)) (filter (is_out_of v) (area_edges (used lsas)))

abbrev raw_graph : List (List ℕ) → Topology
raw_graph lsas = record { vertices = vertices_of lsas; rows = map (raw lsas) (vertices_of lsas) }

raw_row : (lsas : List (List ℕ)) (i : ℕ) (v : Vertex) → slice_get (vertices_of lsas) i ≡ Some v → row_at (raw_graph lsas) i ≡ raw lsas v
raw_row lsas i v at =
    get_or-map (raw lsas) (vertices_of lsas) i v [] (slice_get_within (vertices_of lsas) i v at)
    ∙ ap (raw lsas) (get_or_from_slice_get (vertices_of lsas) i v v at)

-- an edge of a row is one of some vertex
raw_of : (lsas : List (List ℕ)) (i : ℕ) (e : Edge) → Contains (row_at (raw_graph lsas) i) e
    → (v : Vertex) × (slice_get (vertices_of lsas) i ≡ Some v) × In (raw lsas v) e
raw_of lsas i e there = ⊎_elim
    (λ r. (r.0, r.2, subst (λ (row : List Edge). In row e) (raw_row lsas i r.0 r.2) (In-from_Contains (row_at (raw_graph lsas) i) e there)))
    (λ r. absurd (let past : length (map (raw lsas) (vertices_of lsas)) ≤ i = omega (arith, length-map (vertices_of lsas) (raw lsas), r.0) in
    subst (λ (row : List Edge). In row e) (get_or_past (map (raw lsas) (vertices_of lsas)) i [] past) (In-from_Contains (row_at (raw_graph lsas) i) e there)))
    (slice_get_cases (vertices_of lsas) i).1

-- a topology with the vertices and the rows of an area is its graph, if its costs fit 16 bits
module _ (lsas : List (List ℕ)) (are : AreOfArea lsas) (t : Topology) (vertices : t.vertices ≡ vertices_of lsas) (rows : t.rows ≡ rows_of lsas)
    (small : (i : ℕ) (e : Edge) → Contains (row_at t i) e → e.cost < 2 ^ 16) where
  row_is : (i : ℕ) (v : Vertex) → slice_get (vertices_of lsas) i ≡ Some v → row_at t i ≡ each_once same_edge (raw lsas v)
  unfolding row_of
  row_is i v at =
      ap (λ (rs : List (List Edge)). get_or rs i []) rows
      ∙ get_or-map (row_of lsas) (vertices_of lsas) i v [] (slice_get_within (vertices_of lsas) i v at)
      ∙ ap (row_of lsas) (get_or_from_slice_get (vertices_of lsas) i v v at)

  draft : IsDraft (raw_graph lsas)
  draft = record {
    a_row_each = length-map (vertices_of lsas) (raw lsas);
    few = vertices_few lsas are.few;
    distinct = vertices_distinct lsas are.accepted are.distinct;
    in_range = in_range;
    cost_below = cost_below;
  }
    where
      in_range : (e : DirectedEdge ℕ) → IsArc (raw_graph lsas) e → e.to < length (vertices_of lsas)
      in_range e arc =
          let o : Edge = record { to = e.to; cost = e.cost; link_data = e.link_data } in
          let r = raw_of lsas e.from o arc in
          let f = filter_map-In (numbered (vertices_of lsas)) (filter (is_out_of r.0) (area_edges (used lsas))) o r.2 in
          by f.0 (position (is_same (f.0).to) (vertices_of lsas)) refl f.2
        where
          by : (f : DirectedEdge Vertex) (p : Option ℕ) → position (is_same f.to) (vertices_of lsas) ≡ p
              → option_map (λ to. let g : Edge = record { to = to; cost = f.cost; link_data = f.link_data } in g) p
              ≡ Some (record { to = e.to; cost = e.cost; link_data = e.link_data }) → e.to < length (vertices_of lsas)
          by f None at is = absurd (cc)
          by f (Some k) at is =
              let here = (found (vertices_of lsas) f.to k at).0 in
              let same : k ≡ e.to = ap (λ (g : Edge). g.to) (Some-same is) in
              omega arith

      cost_below : (e : DirectedEdge ℕ) → IsArc (raw_graph lsas) e → e.cost < 2 ^ 16
      cost_below e arc =
          let o : Edge = record { to = e.to; cost = e.cost; link_data = e.link_data } in
          let r = raw_of lsas e.from o arc in
          small e.from o (subst (λ (row : List Edge). Contains row o) (sym (row_is e.from r.0 r.1)) (Contains-each_once (raw lsas r.0) o r.2))

  once_rows : map (each_once same_edge) (map (raw lsas) (vertices_of lsas)) ≡ t.rows
  unfolding row_of
  once_rows = by (vertices_of lsas) ∙ sym rows
    where
      by : (vs : List Vertex) → map (each_once same_edge) (map (raw lsas) vs) ≡ map (row_of lsas) vs
      by [] = refl
      by (v ∷ vs) = ap (λ (rs : List (List Edge)). each_once same_edge (raw lsas v) ∷ rs) (by vs)

  pub graph_by_rows : IsGraphOf lsas t
  graph_by_rows =
      subst (λ (s : Topology). IsGraphOf lsas s) (λ i. record { vertices = sym vertices i; rows = once_rows i })
      (is_graph lsas are (raw_graph lsas) draft refl (raw_row lsas))

-- ---- the costs in one row are replaced

module _ (change : CostChange) (lsas others : List (List ℕ)) (are : AreOfArea others) (changed : AreChanged change lsas others) (old new : Topology)
    (graph : IsGraphOf lsas old) (small : change.cost < 2 ^ 16) (from to : ℕ) (at_from : position (is_same (router change)) old.vertices ≡ Some from)
    (at_to : position (is_same change.to) old.vertices ≡ Some to) (few : count_by (leads_to to change.link_data) (row_at old from) ≤ 1)
    (vertices : new.vertices ≡ old.vertices)
    (rows : new.rows ≡ slice_set old.rows from (map (with_cost to change.link_data change.cost) (row_at old from))) where
  abbrev vs : List Vertex
  vs = vertices_of lsas

  same : vertices_of others ≡ vs
  same = same_vertices change lsas others changed

  -- a row of the area after the change
  after : (u : Vertex) → row_of others u ≡ each_once same_edge (filter_map (numbered vs) (filter (is_out_of u) (map (priced change) (area_edges (used lsas)))))
  unfolding row_of
  after u = λ i. each_once same_edge (filter_map (numbered (same i)) (filter (is_out_of u)
      (changed_edges change (used lsas) (used others) (changed_used change lsas others changed) i)))

  after_router : count_by (leads_to to change.link_data) (row_of lsas (router change)) ≤ 1
      → row_of others (router change) ≡ map (with_cost to change.link_data change.cost) (row_of lsas (router change))
  unfolding row_of
  after_router few =
      after (router change)
      ∙ ap (each_once same_edge) (router_row change vs to (ap (λ (ws : List Vertex). position (is_same change.to) ws) (sym graph.vertices) ∙ at_to) (area_edges (used lsas)))
      ∙ once-with_cost to change.link_data change.cost (raw lsas (router change)) few

  after_other : (u : Vertex) → is_same u (router change) ≡ false → row_of others u ≡ row_of lsas u
  unfolding row_of
  after_other u other =
      after u ∙ ap (λ (es : List (DirectedEdge Vertex)). each_once same_edge (filter_map (numbered vs) es)) (other_row change vs u other (area_edges (used lsas)))

  old_row : (i : ℕ) (u : Vertex) → slice_get vs i ≡ Some u → row_at old i ≡ row_of lsas u
  old_row i u at =
      ap (λ (rs : List (List Edge)). get_or rs i []) graph.rows
      ∙ get_or-map (row_of lsas) vs i u [] (slice_get_within vs i u at)
      ∙ ap (row_of lsas) (get_or_from_slice_get vs i u u at)

  router_at : slice_get vs from ≡ Some (router change)
  router_at = ap (λ (ws : List Vertex). slice_get ws from) (sym graph.vertices) ∙ (found old.vertices (router change) from at_from).1

  abbrev row : List Edge
  row = map (with_cost to change.link_data change.cost) (row_at old from)

  from_within : from < length old.rows
  from_within = omega (arith, (found old.vertices (router change) from at_from).0, (graph.shape).a_row_each)

  row_here : row_at new from ≡ row
  row_here = ap (λ (rs : List (List Edge)). get_or rs from []) rows ∙ get_or-set_same old.rows from row [] from_within

  row_there : (i : ℕ) → i ≢ from → row_at new i ≡ row_at old i
  row_there i other = ap (λ (rs : List (List Edge)). get_or rs i []) rows ∙ get_or-set_other old.rows from i row [] other

  rows_are : new.rows ≡ rows_of others
  rows_are = map-by_place (row_of others) (vertices_of others) new.rows [] sized each
    where
      sized : length new.rows ≡ length (vertices_of others)
      sized =
          ap (λ (rs : List (List Edge)). length rs) rows ∙ length-set old.rows from row ∙ (graph.shape).a_row_each
          ∙ ap (λ (ws : List Vertex). length ws) (graph.vertices ∙ sym same)

      here : (u : Vertex) → slice_get vs from ≡ Some u → row_at new from ≡ row_of others u
      here u at =
          let is : router change ≡ u = Some-same (sym router_at ∙ at) in
          let was = old_row from (router change) router_at in
          row_here ∙ ap (map (with_cost to change.link_data change.cost)) was
          ∙ sym (after_router (subst (λ (r : List Edge). count_by (leads_to to change.link_data) r ≤ 1) was few))
          ∙ ap (row_of others) is

      there : (i : ℕ) (u : Vertex) → slice_get vs i ≡ Some u → i ≢ from → row_at new i ≡ row_of others u
      there i u at other = row_there i other ∙ old_row i u at ∙ sym (after_other u (by (is_same u (router change)) refl))
        where
          by : (b : Bool) → is_same u (router change) ≡ b → is_same u (router change) ≡ false
          by false is = is
          by true is =
              let here : slice_get vs i ≡ Some (router change) = at ∙ ap (λ (v : Vertex). Some v) (same_from_is_same u (router change) is) in
              absurd (other (at_one_place vs (subst (λ (ws : List Vertex). AllPairs (λ v w. v ≢ w) ws) graph.vertices (graph.shape).distinct) i from (router change) here router_at))

      each : (i : ℕ) (u : Vertex) → slice_get (vertices_of others) i ≡ Some u → get_or new.rows i [] ≡ row_of others u
      each i u at =
          let before : slice_get vs i ≡ Some u = ap (λ (ws : List Vertex). slice_get ws i) (sym same) ∙ at in
          ⊎_elim
          (λ is. subst (λ (j : ℕ). row_at new j ≡ row_of others u) (sym is) (here u (subst (λ (j : ℕ). slice_get vs j ≡ Some u) is before)))
          (λ other. there i u before other)
          (cases_eq i from)

  costs : (i : ℕ) (e : Edge) → Contains (row_at new i) e → e.cost < 2 ^ 16
  costs i e h = ⊎_elim
      (λ is. here (subst (λ (j : ℕ). Contains (row_at new j) e) is h))
      (λ other. old_cost i e (subst (λ (r : List Edge). Contains r e) (row_there i other) h))
      (cases_eq i from)
    where
      old_cost : (i : ℕ) (e : Edge) → Contains (row_at old i) e → e.cost < 2 ^ 16
      old_cost i e h = (graph.shape).cost_below (record { from = i; to = e.to; cost = e.cost; link_data = e.link_data }) h

      here : Contains (row_at new from) e → e.cost < 2 ^ 16
      here h =
          let r = map-In (with_cost to change.link_data change.cost) (row_at old from) e (In-from_Contains row e (subst (λ (r : List Edge). Contains r e) row_here h)) in
          let was : (r.0).cost < 2 ^ 16 = old_cost from r.0 (Contains-from_In (row_at old from) r.0 r.1) in
          subst (λ (n : ℕ). n < 2 ^ 16) (ap (λ (x : Edge). x.cost) r.2) (by (leads_to to change.link_data r.0) (r.0).cost was)
        where
          by : (b : Bool) (cost : ℕ) → cost < 2 ^ 16 → cond b change.cost cost < 2 ^ 16
          by true cost lt = small
          by false cost lt = lt

  pub changed_graph : IsGraphOf others new
  changed_graph = graph_by_rows others are new (vertices ∙ graph.vertices ∙ sym same) rows_are costs
