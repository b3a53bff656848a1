-- The invariant of the pass over the settled vertices.
use Rattle.std.proofs.Common.{◌≡◌, ℕ, ◌+◌, ◌<◌, ◌≤◌, List, [], length, get_or, Option, None, Some, is_some, refl, sym, ap, ◌∙◌, subst, arith, ◌⊎◌, inl}
use Rattle.std.proofs.Common.{inr, ⊎_elim}
use Rattle.std.specs.List.{All, Contains, slice_get}
use Rattle.std.specs.declared.cmp.Ordering.TheVariants.{Less}
use Rattle.std.proofs.lemmas.Bool.{cases_eq, cases_lt}
use Rattle.std.proofs.lemmas.Option.{slice_get-get_or, slice_get_within}
use Rattle.std.proofs.lemmas.List.{get_or_default, get_or_past}
use Rattle.area_graph.proofs.PathLemmas.{IsLeastCost-same}
use Rattle.std.proofs.lemmas.List.Elements.{Contains-get_or}
use Rattle.area_graph.specs.declared.vertex.Vertex.{Vertex}
use Rattle.area_graph.specs.declared.vertex.Vertex.TheVariants.{Router}
use Rattle.area_graph.specs.Paths.{DirectedEdge, path_cost, IsDistance}
use Rattle.area_graph.specs.declared.edge.Edge.{Edge}
use Rattle.area_graph.specs.Topology.{Topology, IsTopology, IsArc, IsEdge}
use Rattle.area_graph.proofs.TopologyLemmas.{name, IsArc-from, IsDistance-down, path_up, path_down, path_cost-named}
use Rattle.spf.specs.Candidates.{candidate_cmp, candidate_at}
use Rattle.spf.specs.Distances.{Distances, IsTreeOf}
use Rattle.spf.proofs.TreeLemmas.{arc_key, key_at, Less-from_key, not_both_Less, some_of, within_some}
use Rattle.next_hops.specs.declared.hop.Hop.{Hop}
use Rattle.next_hops.specs.Hop.{IsSortedHops}
use Rattle.next_hops.specs.FirstHops.{first_hop, IsHopTo, AreHopsOf, hops_at}
use Rattle.next_hops.specs.steps.Passing.{Grows, IsPassed, IsPassedFrom, IsTight, arc_of}
use Rattle.next_hops.proofs.PathHops.{names, IsFirstHop, IsMeasured, IsPassedOn, IsFirstHop-passed, Contains-first}

-- the first n vertices of the order have handed on their hops
pub record HandedOn (t : Topology) (tree : Distances) (n : ℕ) (table : List (List Hop)) : Type 0 where
  pub sized : length table ≡ length t.vertices
  pub sound : (w : ℕ) (h : Hop) → Contains (hops_at table w) h → IsFirstHop t tree w h
  pub handed : (k : ℕ) → k < n → (e : DirectedEdge ℕ) (h : Hop) → IsArc t e → e.from ≡ get_or tree.order k 0
      → IsPassed t tree (hops_at table e.from) e h → Contains (hops_at table e.to) h
  pub sorted : All IsSortedHops table

module _ (t : Topology) (shape : IsTopology t) (root : Vertex) (tree : Distances) (of : IsTreeOf t root tree) where
  pub measured : IsMeasured t tree
  measured i within =
      let at : slice_get t.vertices i ≡ Some (name t i) = slice_get-get_or t.vertices i (Router (record { 0 = 0 })) within in
      IsDistance-down t shape tree.root i root (name t i) of.root_at at (get_or tree.distances i None) (of.distance i (name t i) at)

  pub root_within : tree.root < length t.vertices
  root_within = slice_get_within t.vertices tree.root root of.root_at

  pub root_zero : get_or tree.distances tree.root None ≡ Some 0
  root_zero = by_distance (get_or tree.distances tree.root None) (measured tree.root root_within)
    where
      by_distance : (o : Option ℕ) → IsDistance (IsArc t) tree.root tree.root o → o ≡ Some 0
      by_distance None none = absurd (none [] refl)
      by_distance (Some d) least = ap (λ (n : ℕ). Some n) (let le : d ≤ 0 = least.1 [] refl in let k : d ≡ 0 = omega arith in k)

  -- the end of a tight edge is not before its start in the order
  later : (k p : ℕ) → p < length tree.order → k ≤ p → (e : DirectedEdge ℕ) → IsArc t e → IsTight tree.distances e
      → e.from ≡ get_or tree.order p 0 → e.to ≡ get_or tree.order k 0 → ⊥
  later k p within le e arc tight from to =
      let d = tight.0 in
      let few : length t.vertices ≤ 8192 = shape.few in
      let in_from : e.from < length t.vertices = IsArc-from t shape e arc in
      let in_to : e.to < length t.vertices = shape.in_range e arc in
      let lt : key_at t d e.from < key_at t (d + e.cost) e.to = arc_key t shape e d arc in
      ⊎_elim
      (λ same. itself (from ∙ ap (λ (n : ℕ). get_or tree.order n 0) (sym same) ∙ sym to) lt)
      (λ other. (let before : k < p = omega arith in
      not_both_Less (candidate_at t d e.from) (candidate_at t (d + e.cost) e.to)
      (Less-from_key (candidate_at t d e.from) (candidate_at t (d + e.cost) e.to) (omega arith) (omega arith) lt)
      (subst (λ (n : ℕ). candidate_cmp (candidate_at t (d + e.cost) n) (candidate_at t d e.from) ≡ Less) (sym to)
      (subst (λ (n : ℕ). candidate_cmp (candidate_at t (d + e.cost) (get_or tree.order k 0)) (candidate_at t d n) ≡ Less) (sym from)
      (of.rising k p 0 before within (d + e.cost) d (subst (λ (n : ℕ). get_or tree.distances n None ≡ Some (d + e.cost)) to tight.2) (subst (λ (n : ℕ). get_or tree.distances n None ≡ Some d) from tight.1))))))
      (cases_eq k p)
    where
      itself : e.from ≡ e.to → key_at t tight.0 e.from < key_at t (tight.0 + e.cost) e.to → ⊥
      itself same lt =
          let one : get_or tree.distances e.from None ≡ Some tight.0 = tight.1 in
          let two : get_or tree.distances e.from None ≡ Some (tight.0 + e.cost) =
          subst (λ (n : ℕ). get_or tree.distances n None ≡ Some (tight.0 + e.cost)) (sym same) tight.2 in
          let sum : tight.0 ≡ tight.0 + e.cost = cc in
          let lt' : key_at t tight.0 e.from < key_at t tight.0 e.from = subst (λ (n : ℕ). key_at t tight.0 e.from < key_at t tight.0 n)
          (sym same) (subst (λ (n : ℕ). key_at t tight.0 e.from < key_at t n e.to) (sym sum) lt) in
          omega arith

  module _ (p : ℕ) (old new : List (List Hop)) (within : p < length tree.order) (s : HandedOn t tree p old)
      (grown : Grows (λ (i : ℕ) (h : Hop). IsPassedFrom t tree (hops_at old (get_or tree.order p 0)) (get_or tree.order p 0) i h) old new) where
    -- a vertex that was handed on gets no new hop
    no_new : (k : ℕ) → k ≤ p → (v : ℕ) → v ≡ get_or tree.order k 0 → (h : Hop) → Contains (hops_at new v) h → Contains (hops_at old v) h
    no_new k le v is h there =
        ⊎_elim (λ x. x)
        (λ q. absurd (later k p within le (arc_of (get_or tree.order p 0) q.0) q.1 q.3.0 refl (sym q.2 ∙ is)))
        (grown.only v h there)

    pub HandedOn-next : HandedOn t tree (p + 1) new
    HandedOn-next = record {
      sized = grown.sized ∙ s.sized;
      sound = λ w h there. ⊎_elim (λ x. s.sound w h x)
          (λ q. subst (λ (n : ℕ). IsFirstHop t tree n h) (sym q.2)
          (IsFirstHop-passed t shape tree measured old s.sound root_zero (arc_of (get_or tree.order p 0) q.0) h q.1 q.3))
          (grown.only w h there);
      handed = λ k lt e h arc from passed.
          let le : k ≤ p = omega arith in
          let before : IsPassed t tree (hops_at old e.from) e h =
          (passed.0, ⊎_elim (λ x. inl x) (λ q. inr (q.0, no_new k le e.from from q.0 q.1, q.2)) passed.1) in
          ⊎_elim
          (λ same. now e h arc (from ∙ ap (λ (n : ℕ). get_or tree.order n 0) same) before)
          (λ other. grown.kept e.to h (s.handed k (omega arith) e h arc from before))
          (cases_eq k p);
      sorted = grown.sorted s.sorted;
    }
      where
        now : (e : DirectedEdge ℕ) (h : Hop) → IsArc t e → e.from ≡ get_or tree.order p 0
            → IsPassed t tree (hops_at old e.from) e h → Contains (hops_at new e.to) h
        now e h arc from passed =
            let o : Edge = record { to = e.to; cost = e.cost; link_data = e.link_data } in
            grown.all e.to h (subst (λ (n : ℕ). IsPassedFrom t tree (hops_at old n) n e.to h) from (o, arc, refl, passed))

  -- no vertex has handed on its hops
  pub HandedOn-start : (table : List (List Hop)) → length table ≡ length t.vertices → All (λ (hops : List Hop). hops ≡ []) table → HandedOn t tree 0 table
  HandedOn-start table sized empty = record {
    sized = sized;
    sound = λ w h there. absurd (none w h there (cases_lt w (length table)));
    handed = λ k lt. absurd (omega arith);
    sorted = λ k d lt. subst (λ (hops : List Hop). IsSortedHops hops) (sym (empty k d lt)) (λ i j d low high. absurd (omega arith));
  }
    where
      nothing : (h : Hop) → Contains [] h → ⊥
      nothing h there = let below : there.0 < 0 = there.1 in omega arith

      none : (w : ℕ) (h : Hop) → Contains (hops_at table w) h → (w < length table) ⊎ (length table ≤ w) → ⊥
      none w h there (inl lt) = nothing h (subst (λ (xs : List Hop). Contains xs h) (empty w [] lt) there)
      none w h there (inr ge) = nothing h (subst (λ (xs : List Hop). Contains xs h) (get_or_past table w [] ge) there)

  -- a vertex of the order is one of the graph
  pub order_within : (p : ℕ) → p < length tree.order → get_or tree.order p 0 < length t.vertices
  order_within p lt =
      let x = some_of (get_or tree.distances (get_or tree.order p 0) None) (of.settled (get_or tree.order p 0) (Contains-get_or tree.order p 0 lt)) in
      let within : get_or tree.order p 0 < length tree.distances = within_some tree.distances (get_or tree.order p 0) x.0 x.1 in
      let size = of.sized in
      omega arith

  module _ (table : List (List Hop)) (n : ℕ) (past : length tree.order ≤ n) (s : HandedOn t tree n table) where
    all_handed : IsPassedOn t tree table
    all_handed e h arc passed =
        let listed = of.listed e.from (ap (λ (o : Option ℕ). is_some o) passed.0.1) in
        s.handed listed.0 (omega arith) e h arc (sym listed.2 ∙ get_or_default tree.order listed.0 e.from 0 listed.1) passed

    to_hop : (i : ℕ) (w : Vertex) → slice_get t.vertices i ≡ Some w → (h : Hop) → IsFirstHop t tree i h → IsHopTo (IsEdge t) root w h
    to_hop i w at h (es, path, least, first) =
        let dist : IsDistance (IsEdge t) root w (Some (path_cost es)) = subst (λ (o : Option ℕ). IsDistance (IsEdge t) root w o) least (of.distance i w at) in (
          names t es,
          path_up t shape tree.root i root w of.root_at at es path,
          (λ fs q. subst (λ (c : ℕ). c ≤ path_cost fs) (sym (path_cost-named t es)) (dist.1 fs q)),
          first,
        )

    from_hop : (i : ℕ) (w : Vertex) → slice_get t.vertices i ≡ Some w → (h : Hop) → IsHopTo (IsEdge t) root w h → IsFirstHop t tree i h
    from_hop i w at h (es, path, low, first) =
        let down = path_down t shape tree.root i root w of.root_at at es path in
        let cost : path_cost es ≡ path_cost down.0 = ap (λ (x : List (DirectedEdge Vertex)). path_cost x) down.2 ∙ path_cost-named t down.0 in (
          down.0,
          down.1,
          by_distance (get_or tree.distances i None) refl
              (of.distance i w at) (path_cost down.0) cost,
          ap (λ (x : List (DirectedEdge Vertex)). first_hop x) (sym down.2) ∙ first,
        )
      where
        by_distance : (o : Option ℕ) → get_or tree.distances i None ≡ o → IsDistance (IsEdge t) root w o
            → (c : ℕ) → path_cost es ≡ c → get_or tree.distances i None ≡ Some c
        by_distance None is none c cost = absurd (none es path)
        by_distance (Some d) is dist c cost = is ∙ ap (λ (n : ℕ). Some n)
            (IsLeastCost-same (IsEdge t) root w d (path_cost es) dist ((es, path, refl), low) ∙ cost)

    -- the table has the hops of the definition
    pub AreHopsOf-handed : AreHopsOf t root table
    AreHopsOf-handed = record {
      sized = s.sized;
      members = λ i w at h. (
        λ there. to_hop i w at h (s.sound i h there),
        λ hop. Contains-first t shape tree measured table all_handed root_zero root_within i h (slice_get_within t.vertices i w at) (from_hop i w at h hop),
      );
    }
