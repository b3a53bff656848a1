-- The rows of marked edges are the edges on paths of least cost.
use Rattle.std.proofs.Common.{◌≡◌, ℕ, zero, suc, ◌+◌, ◌<◌, Bool, true, false, cond, List, length, [], ◌++◌, get_or, Option, None, Some, refl, ap, ◌∙◌}
use Rattle.std.proofs.Common.{subst, arith, ⊎_elim}
use Rattle.std.specs.List.{Contains, slice_get}
use Rattle.std.proofs.lemmas.Bool.{cases_eq}
use Rattle.std.proofs.lemmas.Option.{get_or_from_slice_get, slice_get-get_or, slice_get_within}
use Rattle.area_graph.specs.declared.edge.Edge.{Edge}
use Rattle.area_graph.specs.declared.vertex.Vertex.{Vertex}
use Rattle.area_graph.specs.declared.vertex.Vertex.TheVariants.{Router}
use Rattle.area_graph.specs.Topology.{Topology, IsTopology, IsEdge, row_at}
use Rattle.area_graph.proofs.MemberLemmas.{In, In-cases, In-filter_map, In-from_Contains, In-left, In-right, Contains-from_In, Some-same, filter_map-In}
use Rattle.area_graph.proofs.PathLemmas.{IsLeastCost-same}
use Rattle.area_graph.proofs.TopologyLemmas.{name}
use Rattle.spf.specs.Distances.{Distances, IsTreeOf}
use Rattle.least_paths.specs.declared.least_edge.LeastEdge.{LeastEdge}
use Rattle.least_paths.specs.LeastPaths.{AreLeastEdges, IsLeastEdge, edge_of}
use Rattle.least_paths.specs.steps.Marks.{AreMarks, leads_on}
use Rattle.least_paths.specs.steps.Rows.{edge_at, least_at, least_by, least_row, least_rows}
use Rattle.least_paths.proofs.Numbers.{Leads-from_row, leads_on-from, least_by_number, number_by_least}
use Rattle.least_paths.proofs.Parts.{Leads, Leads-from_path, path-from_Leads}

module _ (t : Topology) (ds : List (Option ℕ)) (marks : List Bool) where
  pub least_rows-In : (n : ℕ) (e : LeastEdge) → In (least_rows t ds marks n) e → (i : ℕ) × (i < n) × In (least_row t ds marks i) e
  unfolding least_rows
  least_rows-In zero e h = absurd h
  least_rows-In (suc n) e h =
      ⊎_elim
      (λ a. (let r = least_rows-In n e a in let lt : r.0 < n = r.1 in (r.0, omega arith, r.2)))
      (λ b. (n, omega arith, b))
      (In-cases (least_rows t ds marks n) (least_row t ds marks n) e h)

  pub In-least_rows : (n i : ℕ) (e : LeastEdge) → i < n → In (least_row t ds marks i) e → In (least_rows t ds marks n) e
  unfolding least_rows
  In-least_rows zero i e lt h = absurd (omega arith)
  In-least_rows (suc n) i e lt h =
      ⊎_elim
      (λ same. In-right (least_rows t ds marks n) (least_row t ds marks n) e (subst (λ (m : ℕ). In (least_row t ds marks m) e) same h))
      (λ other. In-left (least_rows t ds marks n) (least_row t ds marks n) e (In-least_rows n i e (omega arith) h))
      (cases_eq i n)

  pub no_rows : [] ≡ least_rows t ds marks 0
  unfolding least_rows
  no_rows = refl

  pub row_more : (n : ℕ) (before next : List LeastEdge) → before ≡ least_rows t ds marks n → next ≡ before ++ least_row t ds marks n
      → next ≡ least_rows t ds marks (n + 1)
  unfolding least_rows
  row_more n before next was is =
      let on : suc n ≡ n + 1 = omega arith in
      is ∙ ap (λ (l : List LeastEdge). l ++ least_row t ds marks n) was ∙ ap (least_rows t ds marks) on

  -- an edge of a row that leads on, and the distance of its start
  pub record IsOfRow (i : ℕ) (e : LeastEdge) : Type 0 where
    pub edge : Edge
    pub distance : ℕ
    pub there : Contains (row_at t i) edge
    pub at : get_or ds i None ≡ Some distance
    pub on : leads_on ds marks distance edge ≡ true
    pub is : edge_at t i distance edge ≡ e

  pub least_row-In : (i : ℕ) (e : LeastEdge) → In (least_row t ds marks i) e → IsOfRow i e
  least_row-In i e h =
      let f = filter_map-In (least_at t ds marks i) (row_at t i) e h in
      by f.0 (Contains-from_In (row_at t i) f.0 f.1) (get_or ds i None) refl f.2
    where
      by_test : (o : Edge) → Contains (row_at t i) o → (d : ℕ) → get_or ds i None ≡ Some d → (b : Bool) → leads_on ds marks d o ≡ b
          → cond b (Some (edge_at t i d o)) None ≡ Some e → IsOfRow i e
      by_test o there d at false on is = absurd (cc)
      by_test o there d at true on is = record { edge = o; distance = d; there = there; at = at; on = on; is = Some-same is }

      by : (o : Edge) → Contains (row_at t i) o → (x : Option ℕ) → get_or ds i None ≡ x → least_by t ds marks i o x ≡ Some e → IsOfRow i e
      by o there None at is = absurd (cc)
      by o there (Some d) at is = by_test o there d at (leads_on ds marks d o) refl is

module _ (t : Topology) (shape : IsTopology t) (root : Vertex) (tree : Distances) (of : IsTreeOf t root tree) (targets : List Vertex) (marks : List Bool)
    (are : AreMarks t root targets marks) where
  there : (e : LeastEdge) → Contains (least_rows t tree.distances marks (length t.vertices)) e → IsLeastEdge t root targets e
  there e c =
      let r = least_rows-In t tree.distances marks (length t.vertices) e
      (In-from_Contains (least_rows t tree.distances marks (length t.vertices)) e c) in
      let p = least_row-In t tree.distances marks r.0 e r.2 in
      let at_v : slice_get t.vertices r.0 ≡ Some (name t r.0) = slice_get-get_or t.vertices r.0 (Router (record { 0 = 0 })) r.1 in
      let l = Leads-from_row t shape root tree of targets marks are.sound r.0 (name t r.0) p.distance p.edge at_v p.at p.there p.on in
      let least : IsLeastEdge t root targets (edge_at t r.0 p.distance p.edge) = record {
        on_path = path-from_Leads t root targets (edge_of (edge_at t r.0 p.distance p.edge)) l;
        start = least_by_number t shape root tree of r.0 (name t r.0) p.distance at_v p.at;
      } in
      subst (λ (x : LeastEdge). IsLeastEdge t root targets x) p.is least

  back : (e : LeastEdge) → IsLeastEdge t root targets e → Contains (least_rows t tree.distances marks (length t.vertices)) e
  back e h = let l = Leads-from_path t root targets (edge_of e) h.on_path in by l l.edge
    where
      by : Leads t root targets (edge_of e) → IsEdge t (edge_of e) → Contains (least_rows t tree.distances marks (length t.vertices)) e
      by l (a, b, arc, at_a, at_b) =
          let ds = tree.distances in
          let o : Edge = record { to = b; cost = e.cost; link_data = e.link_data } in
          let near : get_or ds a None ≡ Some l.distance = number_by_least t shape root tree of a e.from l.distance at_a l.start in
          let far : get_or ds b None ≡ Some (l.distance + e.cost) = number_by_least t shape root tree of b e.to (l.distance + e.cost) at_b l.end in
          let on : leads_on ds marks l.distance o ≡ true = leads_on-from ds marks l.distance o far (are.all b e.to at_b l.on) in
          let same : l.distance ≡ e.distance = IsLeastCost-same (IsEdge t) root e.from l.distance e.distance l.start h.start in
          let from : name t a ≡ e.from = get_or_from_slice_get t.vertices a e.from (Router (record { 0 = 0 })) at_a in
          let to : name t b ≡ e.to = get_or_from_slice_get t.vertices b e.to (Router (record { 0 = 0 })) at_b in
          let whole : edge_at t a l.distance o ≡ e =
          λ n. record { from = from n; to = to n; cost = e.cost; link_data = e.link_data; distance = same n } in
          let found : least_at t ds marks a o ≡ Some e =
          ap (λ (x : Option ℕ). least_by t ds marks a o x) near
          ∙ ap (λ (c : Bool). cond c (Some (edge_at t a l.distance o)) None) on ∙ ap (λ (x : LeastEdge). Some x) whole in
          Contains-from_In (least_rows t ds marks (length t.vertices)) e
          (In-least_rows t ds marks (length t.vertices) a e (slice_get_within t.vertices a e.from at_a)
          (In-filter_map (least_at t ds marks a) (row_at t a) o e (In-from_Contains (row_at t a) o arc) found))

  -- the edges of all rows
  pub AreLeastEdges-rows : AreLeastEdges t root targets (least_rows t tree.distances marks (length t.vertices))
  AreLeastEdges-rows = λ e. (there e, back e)
