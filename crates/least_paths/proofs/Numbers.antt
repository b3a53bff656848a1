-- Distances and edges by the numbers of vertices.
use Rattle.std.proofs.Common.{◌≡◌, ℕ, suc, ◌+◌, ◌<◌, ◌≤◌, Bool, false, true, List, length, get_or, Option, None, Some, IsSome, is_some, refl, sym, ap, ◌∙◌}
use Rattle.std.proofs.Common.{subst, arith, ⊎_elim}
use Rattle.std.specs.List.{Contains, slice_get}
use Rattle.std.proofs.lemmas.Bool.{and_from, and_parts, cases_eq, cases_lt, eq-eqb, eqb-true, false≢true}
use Rattle.std.proofs.lemmas.List.{get_or_default}
use Rattle.std.proofs.lemmas.Option.{slice_get-get_or}
use Rattle.area_graph.specs.declared.edge.Edge.{Edge}
use Rattle.area_graph.specs.declared.vertex.Vertex.{Vertex}
use Rattle.area_graph.specs.declared.vertex.Vertex.TheVariants.{Router}
use Rattle.area_graph.specs.Paths.{DirectedEdge, IsDistance, IsLeastCost}
use Rattle.area_graph.specs.Topology.{Topology, IsTopology, IsEdge, row_at}
use Rattle.area_graph.proofs.MemberLemmas.{Some-same}
use Rattle.area_graph.proofs.PathLemmas.{IsDistance-same}
use Rattle.area_graph.proofs.TopologyLemmas.{name}
use Rattle.spf.specs.Candidates.{candidate_at, candidate_cmp}
use Rattle.spf.specs.Distances.{Distances, IsTreeOf}
use Rattle.spf.proofs.TreeLemmas.{Less-from_key, arc_key, not_both_Less, within_some}
use Rattle.std.specs.declared.cmp.Ordering.TheVariants.{Less}
use Rattle.least_paths.specs.steps.Marks.{GoesOn, IsMarked, is_at, leads_on}
use Rattle.least_paths.proofs.Parts.{Leads}

-- what it means that an edge leads on
pub leads_on-parts : (ds : List (Option ℕ)) (marks : List Bool) (d : ℕ) (o : Edge) → leads_on ds marks d o ≡ true
    → (get_or ds o.to None ≡ Some (d + o.cost)) × IsMarked marks o.to
leads_on-parts ds marks d o h =
    let both = and_parts (is_at (get_or ds o.to None) (d + o.cost)) (get_or marks o.to false) h in
    (by (get_or ds o.to None) refl both.0, both.1)
  where
    by : (x : Option ℕ) → get_or ds o.to None ≡ x → is_at x (d + o.cost) ≡ true → get_or ds o.to None ≡ Some (d + o.cost)
    by None is h = absurd (false≢true h)
    by (Some far) is h = is ∙ ap (λ (n : ℕ). Some n) (sym (eqb-true (d + o.cost) far h))

pub leads_on-from : (ds : List (Option ℕ)) (marks : List Bool) (d : ℕ) (o : Edge) → get_or ds o.to None ≡ Some (d + o.cost) → IsMarked marks o.to
    → leads_on ds marks d o ≡ true
leads_on-from ds marks d o at marked =
    and_from (is_at (get_or ds o.to None) (d + o.cost)) (get_or marks o.to false)
    (ap (λ (x : Option ℕ). is_at x (d + o.cost)) at ∙ eq-eqb (d + o.cost) (d + o.cost) refl) marked

module _ (t : Topology) (shape : IsTopology t) (root : Vertex) (tree : Distances) (of : IsTreeOf t root tree) where
  abbrev ds : List (Option ℕ)
  ds = tree.distances

  -- a number with a distance is that of a vertex at the least cost
  pub least_by_number : (i : ℕ) (v : Vertex) (d : ℕ) → slice_get t.vertices i ≡ Some v → get_or ds i None ≡ Some d → IsLeastCost (IsEdge t) root v d
  least_by_number i v d at is = subst (λ (o : Option ℕ). IsDistance (IsEdge t) root v o) is (of.distance i v at)

  -- and the other way
  pub number_by_least : (i : ℕ) (v : Vertex) (d : ℕ) → slice_get t.vertices i ≡ Some v → IsLeastCost (IsEdge t) root v d → get_or ds i None ≡ Some d
  number_by_least i v d at least = IsDistance-same (IsEdge t) root v (get_or ds i None) (Some d) (of.distance i v at) least

  -- an edge of a row leads to a vertex
  pub target_there : (i : ℕ) (o : Edge) → Contains (row_at t i) o → slice_get t.vertices o.to ≡ Some (name t o.to)
  target_there i o there =
      let e : DirectedEdge ℕ = record { from = i; to = o.to; cost = o.cost; link_data = o.link_data } in
      slice_get-get_or t.vertices o.to (Router (record { 0 = 0 })) (shape.in_range e there)

  -- an edge between two distances leads to a vertex that is settled later
  pub later : (k d : ℕ) (o : Edge) → k < length tree.order → get_or ds (get_or tree.order k 0) None ≡ Some d
      → Contains (row_at t (get_or tree.order k 0)) o → get_or ds o.to None ≡ Some (d + o.cost)
      → (p : ℕ) × (suc k ≤ p) × (p < length tree.order) × (get_or tree.order p 0 ≡ o.to)
  later k d o within at_i there at_to =
      let i = get_or tree.order k 0 in
      let e : DirectedEdge ℕ = record { from = i; to = o.to; cost = o.cost; link_data = o.link_data } in
      let few : length t.vertices ≤ 8192 = shape.few in
      let sized : length ds ≡ length t.vertices = of.sized in
      let low_i : i < length ds = within_some ds i d at_i in
      let low_to : o.to < length t.vertices = shape.in_range e there in
      let near = candidate_at t d i in
      let far = candidate_at t (d + o.cost) o.to in
      let less : candidate_cmp near far ≡ Less = Less-from_key near far (omega arith) (omega arith) (arc_key t shape e d there) in
      let reached : IsSome (get_or ds o.to None) = ap (λ (x : Option ℕ). is_some x) at_to in
      let c = of.listed o.to reached in
      let at_p : get_or tree.order c.0 0 ≡ o.to = get_or_default tree.order c.0 0 o.to c.1 ∙ c.2 in
      let next : suc k ≤ c.0 =
      ⊎_elim
      (λ before. absurd (not_both_Less near far less (earlier c.0 at_p before)))
      (λ ge. ⊎_elim
      (λ same. absurd (at_once less (sym at_p ∙ ap (λ (n : ℕ). get_or tree.order n 0) same)))
      (λ other. omega arith)
      (cases_eq c.0 k))
      (cases_lt c.0 k) in
      (c.0, next, c.1, at_p)
    where
      earlier : (p : ℕ) → get_or tree.order p 0 ≡ o.to → p < k
          → candidate_cmp (candidate_at t (d + o.cost) o.to) (candidate_at t d (get_or tree.order k 0)) ≡ Less
      earlier p at_p lt =
          subst (λ (n : ℕ). candidate_cmp (candidate_at t (d + o.cost) n) (candidate_at t d (get_or tree.order k 0)) ≡ Less) at_p
          (of.rising p k 0 lt within (d + o.cost) d (ap (λ (n : ℕ). get_or ds n None) at_p ∙ at_to) at_i)

      at_once : candidate_cmp (candidate_at t d (get_or tree.order k 0)) (candidate_at t (d + o.cost) o.to) ≡ Less
          → o.to ≡ get_or tree.order k 0 → ⊥
      at_once less same =
          let one : Some d ≡ Some (d + o.cost) = sym at_i ∙ ap (λ (n : ℕ). get_or ds n None) (sym same) ∙ at_to in
          let sum : d ≡ d + o.cost = Some-same one in
          let self : candidate_cmp (candidate_at t d (get_or tree.order k 0)) (candidate_at t d (get_or tree.order k 0)) ≡ Less =
          subst (λ (n : ℕ). candidate_cmp (candidate_at t d (get_or tree.order k 0)) (candidate_at t d n) ≡ Less) same
          (subst (λ (n : ℕ). candidate_cmp (candidate_at t d (get_or tree.order k 0)) (candidate_at t n o.to) ≡ Less) (sym sum) less) in
          not_both_Less (candidate_at t d (get_or tree.order k 0)) (candidate_at t d (get_or tree.order k 0)) self self

  module _ (targets : List Vertex) (marks : List Bool)
      (sound : (i : ℕ) (v : Vertex) → slice_get t.vertices i ≡ Some v → IsMarked marks i → GoesOn t root targets v) where
    -- an edge that leads on, by its vertices
    pub Leads-from_row : (i : ℕ) (v : Vertex) (d : ℕ) (o : Edge) → slice_get t.vertices i ≡ Some v → get_or ds i None ≡ Some d
        → Contains (row_at t i) o → leads_on ds marks d o ≡ true
        → Leads t root targets (record { from = v; to = name t o.to; cost = o.cost; link_data = o.link_data })
    Leads-from_row i v d o at is there on =
        let parts = leads_on-parts ds marks d o on in
        let at_to = target_there i o there in
        record {
          distance = d;
          edge = (i, o.to, there, at, at_to);
          start = least_by_number i v d at is;
          end = least_by_number o.to (name t o.to) (d + o.cost) at_to parts.0;
          on = sound o.to (name t o.to) at_to parts.1;
        }
