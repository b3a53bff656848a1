-- A graph in which the costs of a row are replaced is still one.
use Rattle.std.proofs.Common.{◌≡◌, ◌≢◌, ℕ, ◌<◌, ◌≤◌, ◌^◌, Bool, true, false, cond, List, [], map, length, get_or, Some, refl, sym, ap, ◌∙◌, subst, arith}
use Rattle.std.proofs.Common.{⊎_elim, true≢false}
use Rattle.std.specs.Prelude.{AllPairs, Contains, slice_get, slice_set}
use Rattle.std.specs.List.{count_by}
use Rattle.std.proofs.lemmas.Bool.{cases_eq}
use Rattle.std.proofs.lemmas.List.{get_or-map, get_or-set_other, get_or-set_same, length-map, length-set}
use Rattle.std.proofs.lemmas.List.Elements.{Contains-get_or}
use Rattle.area_graph.specs.declared.edge.Edge.{Edge}
use Rattle.area_graph.specs.declared.vertex.Vertex.{Vertex}
use Rattle.area_graph.specs.Vertex.{is_network}
use Rattle.area_graph.specs.Paths.{DirectedEdge}
use Rattle.area_graph.specs.Topology.{IsArc, IsEdge, IsTopology, Topology, row_at}
use Rattle.area_graph.specs.steps.CostRows.{leads_to, with_cost}
use Rattle.area_graph.specs.Rows.{same_edge}
use Rattle.lsa_codec.specs.declared.address.Addr.{Addr}
use Rattle.area_graph.proofs.ChangedRows.{as_apart}
use Rattle.area_graph.proofs.EachOnce.{edge_is, edge_same}
use Rattle.area_graph.proofs.MemberLemmas.{Contains-from_In, In-from_Contains, Some-same, map-In}

module _ (old new : Topology) (from to : ℕ) (link_data : Addr) (cost : ℕ) (router : Vertex) (positive : 0 < cost) (small : cost < 2 ^ 16)
    (is_router : is_network router ≡ false) (at : slice_get old.vertices from ≡ Some router) (within : from < length old.rows)
    (few : count_by (leads_to to link_data) (row_at old from) ≤ 1) (vertices : new.vertices ≡ old.vertices)
    (rows : new.rows ≡ slice_set old.rows from (map (with_cost to link_data cost) (row_at old from))) (shape : IsTopology old) where
  abbrev change : Edge → Edge
  change e = with_cost to link_data cost e

  row_here : row_at new from ≡ map change (row_at old from)
  row_here = ap (λ (rs : List (List Edge)). get_or rs from []) rows ∙ get_or-set_same old.rows from (map change (row_at old from)) [] within

  row_there : (i : ℕ) → i ≢ from → row_at new i ≡ row_at old i
  row_there i other = ap (λ (rs : List (List Edge)). get_or rs i []) rows ∙ get_or-set_other old.rows from i (map change (row_at old from)) [] other

  -- an edge of a row, as it was
  record Was (i : ℕ) (e : Edge) : Type 0 where
    edge : Edge
    there : Contains (row_at old i) edge
    same_to : edge.to ≡ e.to
    same_data : edge.link_data ≡ e.link_data
    costs : (b : Bool) × (e.cost ≡ cond b cost edge.cost)
    same : i ≢ from → edge ≡ e

  was : (i : ℕ) (e : Edge) → Contains (row_at new i) e → Was i e
  was i e h = ⊎_elim
      (λ is. subst (λ (j : ℕ). Was j e) (sym is) (here (subst (λ (j : ℕ). Contains (row_at new j) e) is h)))
      (λ other. record {
        edge = e;
        there = subst (λ (r : List Edge). Contains r e) (row_there i other) h;
        same_to = refl;
        same_data = refl;
        costs = (false, refl);
        same = λ apart. refl;
      })
      (cases_eq i from)
    where
      here : Contains (row_at new from) e → Was from e
      here h =
          let r = map-In change (row_at old from) e (In-from_Contains (map change (row_at old from)) e (subst (λ (r : List Edge). Contains r e) row_here h)) in
          record {
            edge = r.0;
            there = Contains-from_In (row_at old from) r.0 r.1;
            same_to = ap (λ (x : Edge). x.to) r.2;
            same_data = ap (λ (x : Edge). x.link_data) r.2;
            costs = (leads_to to link_data r.0, sym (ap (λ (x : Edge). x.cost) r.2));
            same = λ apart. absurd (apart refl);
          }

  abbrev entry : DirectedEdge ℕ → Edge
  entry e = record { to = e.to; cost = e.cost; link_data = e.link_data }

  once : (i : ℕ) → AllPairs (λ e f. e ≢ f) (row_at new i)
  once i = ⊎_elim
      (λ is. subst (λ (j : ℕ). AllPairs (λ e f. e ≢ f) (row_at new j)) (sym is) (subst (λ (r : List Edge). AllPairs (λ e f. e ≢ f) r) (sym row_here) here))
      (λ other. subst (λ (r : List Edge). AllPairs (λ e f. e ≢ f) r) (sym (row_there i other)) (shape.once i))
      (cases_eq i from)
    where
      here : AllPairs (λ e f. e ≢ f) (map change (row_at old from))
      here j k d below lt same =
          let row : List Edge = row_at old from in
          let size = length-map row change in
          let ltk : k < length row = omega arith in
          let ltj : j < length row = omega arith in
          let x : Edge = get_or row j d in
          let y : Edge = get_or row k d in
          let mapped : change x ≡ change y = sym (get_or-map change row j d d ltj) ∙ same ∙ get_or-map change row k d d ltk in
          let equal : same_edge x y ≡ true = sym (as_apart to link_data cost row few x y
          (In-from_Contains row x (Contains-get_or row j d ltj)) (In-from_Contains row y (Contains-get_or row k d ltk)))
          ∙ edge_same (change x) (change y) mapped in
          shape.once from j k d below ltk (edge_is x y equal)

  in_range : (e : DirectedEdge ℕ) → IsArc new e → e.to < length new.vertices
  in_range e arc =
      let w = was e.from (entry e) arc in
      let before = shape.in_range (record { from = e.from; to = (w.edge).to; cost = (w.edge).cost; link_data = (w.edge).link_data }) w.there in
      omega (arith, before, w.same_to, ap (λ (vs : List Vertex). length vs) vertices)

  cost_below : (e : DirectedEdge ℕ) → IsArc new e → e.cost < 2 ^ 16
  cost_below e arc =
      let w = was e.from (entry e) arc in
      let before = shape.cost_below (record { from = e.from; to = (w.edge).to; cost = (w.edge).cost; link_data = (w.edge).link_data }) w.there in
      subst (λ (n : ℕ). n < 2 ^ 16) (sym (w.costs).1) (by (w.costs).0 (w.edge).cost before)
    where
      by : (b : Bool) (n : ℕ) → n < 2 ^ 16 → cond b cost n < 2 ^ 16
      by true n lt = small
      by false n lt = lt

  -- the edge as it was
  edge_was : (e : DirectedEdge Vertex) (h : IsEdge new e) → (f : DirectedEdge Vertex) × IsEdge old f × (f.from ≡ e.from) × (f.to ≡ e.to)
      × ((b : Bool) × (e.cost ≡ cond b cost f.cost)) × (is_network e.from ≡ true → f.cost ≡ e.cost)
  edge_was e (i, j, arc, at_i, at_j) =
      let o : Edge = record { to = j; cost = e.cost; link_data = e.link_data } in
      let w = was i o arc in
      let at_from = ap (λ (vs : List Vertex). slice_get vs i) (sym vertices) ∙ at_i in
      let at_to = ap (λ (vs : List Vertex). slice_get vs j) (sym vertices) ∙ at_j in (
        record { from = e.from; to = e.to; cost = (w.edge).cost; link_data = e.link_data },
        (i, j, subst (λ (x : Edge). Contains (row_at old i) x) (λ n. record { to = w.same_to n; cost = (w.edge).cost; link_data = w.same_data n }) w.there, at_from, at_to),
        refl,
        refl,
        w.costs,
        λ net. ap (λ (x : Edge). x.cost) (w.same (λ is. true≢false
            (sym net ∙ ap is_network (Some-same (sym at_from ∙ ap (slice_get old.vertices) is ∙ at)) ∙ is_router))),
      )

  from_network : (e : DirectedEdge Vertex) → IsEdge new e → is_network e.from ≡ true → (e.cost ≡ 0) × (is_network e.to ≡ false)
  from_network e h net =
      let r = edge_was e h in
      let before = shape.from_network r.0 r.1 (ap is_network r.2 ∙ net) in
      (sym (r.5 net) ∙ before.0, ap is_network (sym r.3) ∙ before.1)

  from_router : (e : DirectedEdge Vertex) → IsEdge new e → is_network e.from ≡ false → 0 < e.cost
  from_router e h router =
      let r = edge_was e h in
      subst (λ (n : ℕ). 0 < n) (sym (r.4).1) (by (r.4).0 (r.0).cost (shape.from_router r.0 r.1 (ap is_network r.2 ∙ router)))
    where
      by : (b : Bool) (n : ℕ) → 0 < n → 0 < cond b cost n
      by true n lt = positive
      by false n lt = lt

  pub with_cost-topology : IsTopology new
  with_cost-topology = record {
    a_row_each = ap (λ (rs : List (List Edge)). length rs) rows ∙ length-set old.rows from (map change (row_at old from)) ∙ shape.a_row_each
        ∙ ap (λ (vs : List Vertex). length vs) (sym vertices);
    few = subst (λ (vs : List Vertex). length vs ≤ 8192) (sym vertices) shape.few;
    distinct = subst (λ (vs : List Vertex). AllPairs (λ v w. v ≢ w) vs) (sym vertices) shape.distinct;
    once = once;
    in_range = in_range;
    cost_below = cost_below;
    from_network = from_network;
    from_router = from_router;
  }
