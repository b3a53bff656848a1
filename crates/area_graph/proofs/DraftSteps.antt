-- Graphs with one more edge.
use Rattle.std.proofs.Common.{◌≡◌, ◌≢◌, ℕ, zero, suc, ◌<◌, ◌≤◌, ◌^◌, eqb, Bool, true, false, cond, List, [], ◌∷◌, ◌++◌, map, length, get_or, set}
use Rattle.std.proofs.Common.{refl, sym, ap, ◌∙◌, subst, arith, ◌⊎◌, inl, inr, ⊎_elim, true≢false}
use Rattle.std.specs.List.{Contains, AllPairs}
use Rattle.std.proofs.lemmas.List.Elements.{Contains-push_cases}
use Rattle.std.proofs.lemmas.List.{get_or-set_same, get_or-set_other, length-set, length-map, map-set, get_or-map, append-nil}
use Rattle.std.proofs.Math.Seq.{map-set_same}
use Rattle.std.specs.Result.{OnOk, OnErr}
use Rattle.std.specs.declared.result.Result.{Result}
use Rattle.std.specs.declared.result.Result.TheVariants.{Ok, Err}
use Rattle.std.proofs.lemmas.Bool.{cases_eq, eqb-true, eq-eqb}
use Rattle.area_graph.specs.declared.vertex.Vertex.{Vertex}
use Rattle.area_graph.specs.declared.edge.Edge.{Edge}
use Rattle.area_graph.specs.Topology.{Topology, row_at}
use Rattle.area_graph.specs.steps.Drafts.{IsDraft, with_edge, Adds, arc_of, edge_of, out_of}
use Rattle.area_graph.proofs.MemberLemmas.{In-from_Contains}

-- ---- rows

module _ (t : Topology) (draft : IsDraft t) (i : ℕ) (within : i < length t.vertices) (e : Edge) where
  there : i < length t.rows
  there = let sized = draft.a_row_each in omega arith

  row_here : row_at (with_edge t i e) i ≡ row_at t i ++ e ∷ []
  row_here = get_or-set_same t.rows i (row_at t i ++ e ∷ []) [] there

  row_else : (j : ℕ) → j ≢ i → row_at (with_edge t i e) j ≡ row_at t j
  row_else j other = get_or-set_other t.rows i j (row_at t i ++ e ∷ []) [] other

  -- the members of a row, by the row before
  row_only : (j : ℕ) (f : Edge) → Contains (row_at (with_edge t i e) j) f → Contains (row_at t j) f ⊎ (f ≡ e)
  row_only j f h =
      ⊎_elim
      (λ same. ⊎_elim
      (λ old. inl (subst (λ (k : ℕ). Contains (row_at t k) f) (sym same) old))
      (λ new. inr (sym new))
      (Contains-push_cases (row_at t i) e f (subst (λ (r : List Edge). Contains r f) row_here
      (subst (λ (k : ℕ). Contains (row_at (with_edge t i e) k) f) same h))))
      (λ other. inl (subst (λ (r : List Edge). Contains r f) (row_else j other) h))
      (cases_eq j i)

  pub draft_more : e.to < length t.vertices → e.cost < 2 ^ 16 → IsDraft (with_edge t i e)
  draft_more to cost = record {
    a_row_each = length-set t.rows i (row_at t i ++ e ∷ []) ∙ draft.a_row_each;
    few = draft.few;
    distinct = draft.distinct;
    in_range = λ a arc. ⊎_elim (λ old. draft.in_range a old) (λ new. subst (λ n. n < length t.vertices) (sym (ap (λ (x : Edge). x.to) new)) to)
        (row_only a.from (record { to = a.to; cost = a.cost; link_data = a.link_data }) arc);
    cost_below = λ a arc. ⊎_elim (λ old. draft.cost_below a old) (λ new. subst (λ n. n < 2 ^ 16) (sym (ap (λ (x : Edge). x.cost) new)) cost)
        (row_only a.from (record { to = a.to; cost = a.cost; link_data = a.link_data }) arc);
  }

-- ---- one more edge

pub adds_one : (t : Topology) → IsDraft t → (i : ℕ) → i < length t.vertices → (e : Edge) (new : Topology) → new ≡ with_edge t i e → Adds (arc_of i e ∷ []) t new
adds_one t draft i within e new is = record { rows = λ j. ap (λ (u : Topology). row_at u j) is ∙ by j (eqb i j) refl }
  where
    by : (j : ℕ) (b : Bool) → eqb i j ≡ b → row_at (with_edge t i e) j ≡ row_at t j ++ out_of j (arc_of i e ∷ [])
    by j true is =
        let same : i ≡ j = eqb-true i j is in
        subst (λ (k : ℕ). row_at (with_edge t i e) k ≡ row_at t k ++ e ∷ []) same (row_here t draft i within e)
        ∙ ap (λ (r : List Edge). row_at t j ++ r) (sym (ap (λ (b : Bool). map edge_of (cond b (arc_of i e ∷ []) [])) is))
    by j false is =
        row_else t draft i within e j (λ same. true≢false (sym (eq-eqb i j (sym same)) ∙ is))
        ∙ sym (append-nil (row_at t j)) ∙ ap (λ (r : List Edge). row_at t j ++ r) (sym (ap (λ (b : Bool). map edge_of (cond b (arc_of i e ∷ []) [])) is))

-- ---- in memory, where a row has its list of edges

pub ok_or_err : {T E P Q : Type 0} (r : Result T E) → OnOk r P → OnErr r Q → P ⊎ Q
ok_or_err (Ok x) p q = inl p
ok_or_err (Err e) p q = inr q

module _ {R : Type 0} (edges : R → List Edge) (vertices : List Vertex) (rows : List R) (i : ℕ) (old new : R) (e : Edge) where
  abbrev before : Topology
  before = record { vertices = vertices; rows = map edges rows }

  abbrev after : Topology
  after = record { vertices = vertices; rows = map edges (set rows i new) }

  pub draft_set : IsDraft before → i < length vertices → old ≡ get_or rows i old → edges new ≡ edges old ++ e ∷ [] → after ≡ with_edge before i e
  draft_set draft within is added =
      let sized = length-map rows edges in
      let each = draft.a_row_each in
      let lt : i < length rows = omega arith in
      let row : edges old ≡ row_at before i = ap edges is ∙ sym (get_or-map edges rows i old [] lt) in
      ap (λ (rs : List (List Edge)). let t : Topology = record { vertices = vertices; rows = rs } in t)
      (map-set edges rows i new ∙ ap (λ (r : List Edge). set (map edges rows) i r) (added ∙ ap (λ (r : List Edge). r ++ e ∷ []) row))

  pub draft_same : old ≡ get_or rows i old → edges new ≡ edges old → after ≡ before
  draft_same is same =
      ap (λ (rs : List (List Edge)). let t : Topology = record { vertices = vertices; rows = rs } in t) (map-set_same edges rows i new old (same ∙ ap edges is))

  pub draft_kept : IsDraft before → i < length vertices → e.to < length vertices → e.cost < 2 ^ 16 → old ≡ get_or rows i old
      → (edges new ≡ edges old ++ e ∷ []) ⊎ (edges new ≡ edges old) → IsDraft after
  draft_kept draft within to cost is (inl added) =
      subst IsDraft (sym (draft_set draft within is added)) (draft_more before draft i within e to cost)
  draft_kept draft within to cost is (inr same) = subst IsDraft (sym (draft_same is same)) draft

-- ---- rows without edges

pub empty_push : {R : Type 0} (edges : R → List Edge) (rows : List R) (row : R) → ((i : ℕ) → get_or (map edges rows) i [] ≡ []) → edges row ≡ []
    → (i : ℕ) → get_or (map edges (rows ++ row ∷ [])) i [] ≡ []
empty_push edges [] row all is zero = is
empty_push edges [] row all is (suc i) = refl
empty_push edges (r ∷ rows) row all is zero = all 0
empty_push edges (r ∷ rows) row all is (suc i) = empty_push edges rows row (λ k. all (suc k)) is i

no_member : (f : Edge) → Contains {X = Edge} [] f → ⊥
no_member f h = In-from_Contains [] f h

pub empty_draft : (t : Topology) → length t.rows ≡ length t.vertices → AllPairs (λ v w. v ≢ w) t.vertices → length t.vertices ≤ 8192
    → ((i : ℕ) → row_at t i ≡ []) → IsDraft t
empty_draft t sized distinct few none = record {
  a_row_each = sized;
  few = few;
  distinct = distinct;
  in_range = λ a arc. absurd (no_member _ (subst (λ (r : List Edge). Contains r (record { to = a.to; cost = a.cost; link_data = a.link_data }))
      (none a.from) arc));
  cost_below = λ a arc. absurd (no_member _ (subst (λ (r : List Edge). Contains r (record { to = a.to; cost = a.cost; link_data = a.link_data }))
      (none a.from) arc));
}
