-- Vertices are marked from the last that is settled to the first.
use Rattle.std.proofs.Common.{◌≡◌, ℕ, suc, ◌+◌, ◌-◌, ◌<◌, ◌≤◌, Bool, false, List, length, get_or, replicate, Option, None, Some, IsSome, is_some, refl, sym, ap, ◌∙◌}
use Rattle.std.proofs.Common.{subst, arith, inl, inr, ◌⊎◌, ⊎_elim}
use Rattle.std.specs.List.{Contains, slice_get}
use Rattle.std.proofs.lemmas.Bool.{cases_eq, cases_lt, false≢true}
use Rattle.std.proofs.lemmas.List.{get_or-replicate, get_or_past, length-replicate}
use Rattle.std.proofs.lemmas.List.{get_or_default}
use Rattle.area_graph.specs.declared.edge.Edge.{Edge}
use Rattle.area_graph.specs.declared.vertex.Vertex.{Vertex}
use Rattle.area_graph.specs.Paths.{DirectedEdge}
use Rattle.area_graph.specs.Topology.{Topology, IsTopology, IsEdge, row_at}
use Rattle.area_graph.proofs.MemberLemmas.{Some-same}
use Rattle.area_graph.proofs.TopologyLemmas.{name, one_number}
use Rattle.spf.specs.Distances.{Distances, IsTreeOf}
use Rattle.spf.proofs.TreeLemmas.{some_of}
use Rattle.least_paths.specs.steps.Marks.{AreMarks, GoesOn, IsMarked, IsReachedTarget, LeadsOn, Marks}
use Rattle.least_paths.proofs.Numbers.{Leads-from_row, later, leads_on-from, least_by_number, number_by_least}
use Rattle.least_paths.proofs.Parts.{GoesOn-cases, GoesOn-edge, GoesOn-target, Leads}

-- nothing is marked at first
pub none_marked : (n i : ℕ) → IsMarked (replicate n false) i → ⊥
none_marked n i h =
    ⊎_elim (λ lt. false≢true (sym (get_or-replicate n i false false lt) ∙ h))
    (λ le. false≢true (sym (get_or_past (replicate n false) i false (subst (λ (m : ℕ). m ≤ i) (sym (length-replicate n false)) le)) ∙ h))
    (cases_lt i n)

module _ (t : Topology) (root : Vertex) (tree : Distances) (targets : List Vertex) where
  -- the marks once the vertices of the order from a place on are decided
  pub record MarkedFrom (k : ℕ) (marks : List Bool) : Type 0 where
    pub sized : length marks ≡ length t.vertices
    pub sound : (i : ℕ) (v : Vertex) → slice_get t.vertices i ≡ Some v → IsMarked marks i → GoesOn t root targets v
    pub reached : (i : ℕ) → IsReachedTarget t tree.distances targets i → IsMarked marks i
    pub done : (j : ℕ) (v : Vertex) → k ≤ j → j < length tree.order → slice_get t.vertices (get_or tree.order j 0) ≡ Some v
        → GoesOn t root targets v → IsMarked marks (get_or tree.order j 0)

module _ (t : Topology) (shape : IsTopology t) (root : Vertex) (tree : Distances) (of : IsTreeOf t root tree) (targets : List Vertex) where
  -- the targets alone
  pub MarkedFrom-targets : (n : ℕ) (marks : List Bool) → n ≡ length t.vertices
      → Marks (IsReachedTarget t tree.distances targets) (replicate n false) marks → MarkedFrom t root tree targets (length tree.order) marks
  MarkedFrom-targets n marks sized m = record {
    sized = m.sized ∙ length-replicate n false ∙ sized;
    sound = λ i v at marked.
        ⊎_elim (λ old. absurd (none_marked n i old)) (λ r. (
        let d = some_of (get_or tree.distances i None) r.is.reached in
        let same : r.target ≡ v = Some-same (sym r.is.at ∙ at) in
        GoesOn-target t root targets v d.0 (subst (λ (x : Vertex). Contains targets x) same r.one)
        (least_by_number t shape root tree of i v d.0 at d.1))) (m.only i marked);
    reached = λ i r. m.marked i r;
    done = λ j v le lt at goes. absurd (omega (arith, le, lt));
  }

  -- one vertex more
  pub MarkedFrom-next : (k : ℕ) (old new : List Bool) → k < length tree.order → MarkedFrom t root tree targets (suc k) old
      → Marks (λ i. (i ≡ get_or tree.order k 0) × LeadsOn t tree.distances old (get_or tree.order k 0)) old new
      → MarkedFrom t root tree targets k new
  MarkedFrom-next k old new within before m = record {
    sized = m.sized ∙ before.sized;
    sound = λ i v at marked.
        ⊎_elim (λ o. before.sound i v at o) (λ leads. by_edge v (subst (λ (n : ℕ). slice_get t.vertices n ≡ Some v) leads.0 at) leads.1) (m.only i marked);
    reached = λ i r. m.kept i (before.reached i r);
    done = λ j v le lt at goes.
        ⊎_elim
        (λ same. (
        let here : slice_get t.vertices (get_or tree.order k 0) ≡ Some v =
        subst (λ (n : ℕ). slice_get t.vertices (get_or tree.order n 0) ≡ Some v) same at in
        subst (λ (n : ℕ). IsMarked new (get_or tree.order n 0)) (sym same) (decided v here goes (GoesOn-cases t root targets v goes))))
        (λ other. m.kept (get_or tree.order j 0) (before.done j v (omega arith) lt at goes))
        (cases_eq j k);
  }
    where
      by_edge : (v : Vertex) → slice_get t.vertices (get_or tree.order k 0) ≡ Some v → LeadsOn t tree.distances old (get_or tree.order k 0)
          → GoesOn t root targets v
      by_edge v at l = GoesOn-edge t root targets
          (record { from = v; to = name t l.edge.to; cost = l.edge.cost; link_data = l.edge.link_data })
          (Leads-from_row t shape root tree of targets old before.sound (get_or tree.order k 0) v l.distance l.edge at l.at l.out l.on)

      over : (v : Vertex) → slice_get t.vertices (get_or tree.order k 0) ≡ Some v → (e : DirectedEdge Vertex) → e.from ≡ v
          → Leads t root targets e → IsEdge t e → IsMarked new (get_or tree.order k 0)
      over v at e from l (a, b, arc, at_a, at_b) =
          let o : Edge = record { to = b; cost = e.cost; link_data = e.link_data } in
          let one : a ≡ get_or tree.order k 0 =
          one_number t shape a (get_or tree.order k 0) v (at_a ∙ ap (λ (x : Vertex). Some x) from) at in
          let there : Contains (row_at t (get_or tree.order k 0)) o = subst (λ (n : ℕ). Contains (row_at t n) o) one arc in
          let near : get_or tree.distances (get_or tree.order k 0) None ≡ Some l.distance =
          subst (λ (n : ℕ). get_or tree.distances n None ≡ Some l.distance) one (number_by_least t shape root tree of a e.from l.distance at_a l.start) in
          let far : get_or tree.distances b None ≡ Some (l.distance + e.cost) = number_by_least t shape root tree of b e.to (l.distance + e.cost) at_b l.end in
          let p = later t shape root tree of k l.distance o within near there far in
          let at_p : slice_get t.vertices (get_or tree.order p.0 0) ≡ Some e.to =
          subst (λ (n : ℕ). slice_get t.vertices n ≡ Some e.to) (sym p.3) at_b in
          let marked : IsMarked old b = subst (λ (n : ℕ). IsMarked old n) p.3 (before.done p.0 e.to p.1 p.2 at_p l.on) in
          let leads : LeadsOn t tree.distances old (get_or tree.order k 0) = record {
            distance = l.distance;
            at = near;
            edge = o;
            out = there;
            on = leads_on-from tree.distances old l.distance o far marked;
          } in
          m.marked (get_or tree.order k 0) (refl, leads)

      decided : (v : Vertex) → slice_get t.vertices (get_or tree.order k 0) ≡ Some v → GoesOn t root targets v
          → Contains targets v ⊎ ((e : DirectedEdge Vertex) × (e.from ≡ v) × Leads t root targets e) → IsMarked new (get_or tree.order k 0)
      decided v at goes (inl target) =
          let some : IsSome (get_or tree.distances (get_or tree.order k 0) None) =
          ap (λ (x : Option ℕ). is_some x) (number_by_least t shape root tree of (get_or tree.order k 0) v goes.distance at goes.near) in
          m.kept (get_or tree.order k 0) (before.reached (get_or tree.order k 0) (record { target = v; one = target; is = record { at = at; reached = some } }))
      decided v at goes (inr (e, from, l)) = over v at e from l l.edge

  -- the targets alone, as the code has them
  pub MarkedFrom-start : (n : ℕ) (none marks items : List Bool) (order : List ℕ) → n ≡ length t.vertices → none ≡ replicate n false
      → order ≡ tree.order → items ≡ marks → Marks (IsReachedTarget t tree.distances targets) none marks
      → MarkedFrom t root tree targets (length order) items
  MarkedFrom-start n none marks items order sized empty is written m =
      subst (λ (l : List Bool). MarkedFrom t root tree targets (length order) l) (sym written)
      (subst (λ (o : List ℕ). MarkedFrom t root tree targets (length o) marks) (sym is)
      (MarkedFrom-targets n marks sized (subst (λ (l : List Bool). Marks (IsReachedTarget t tree.distances targets) l marks) empty m)))

  -- one vertex more, as the code has it
  pub MarkedFrom-turn : (k from : ℕ) (order : List ℕ) (kept old new items : List Bool) → order ≡ tree.order → 0 < k → k ≤ length order
      → from ≡ get_or order (k - 1) 0 → MarkedFrom t root tree targets k kept → old ≡ kept → items ≡ new
      → Marks (λ i. (i ≡ from) × LeadsOn t tree.distances old from) old new → MarkedFrom t root tree targets (k - 1) items
  MarkedFrom-turn k from order kept old new items is some low at before same written m =
      let next : k ≡ suc (k - 1) = omega arith in
      let there : from ≡ get_or tree.order (k - 1) 0 = at ∙ ap (λ (o : List ℕ). get_or o (k - 1) 0) is in
      let within : k - 1 < length order = omega arith in
      let were : MarkedFrom t root tree targets (suc (k - 1)) kept = subst (λ (n : ℕ). MarkedFrom t root tree targets n kept) next before in
      subst (λ (l : List Bool). MarkedFrom t root tree targets (k - 1) l) (sym written)
      (MarkedFrom-next (k - 1) old new (subst (λ (o : List ℕ). k - 1 < length o) is within)
      (subst (λ (l : List Bool). MarkedFrom t root tree targets (suc (k - 1)) l) (sym same) were)
      (subst (λ (n : ℕ). Marks (λ i. (i ≡ n) × LeadsOn t tree.distances old n) old new) there m))

  -- all of them
  pub AreMarks-all : (marks : List Bool) → MarkedFrom t root tree targets 0 marks → AreMarks t root targets marks
  AreMarks-all marks m = record {
    sized = m.sized;
    sound = m.sound;
    all = λ i v at goes.
        (let some : IsSome (get_or tree.distances i None) =
        ap (λ (x : Option ℕ). is_some x) (number_by_least t shape root tree of i v goes.distance at goes.near) in
        let c = of.listed i some in
        let at_p : get_or tree.order c.0 0 ≡ i = get_or_default tree.order c.0 0 i c.1 ∙ c.2 in
        subst (λ (n : ℕ). IsMarked marks n) at_p
        (m.done c.0 v (omega arith) c.1 (subst (λ (n : ℕ). slice_get t.vertices n ≡ Some v) (sym at_p) at) goes));
  }
