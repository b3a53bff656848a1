-- Paths over the vertices' numbers, and over the vertices themselves.
use Rattle.std.proofs.Common.{◌≡◌, ◌≢◌, ℕ, ◌+◌, ◌<◌, ◌≤◌, Bool, true, false, List, [], ◌∷◌, map, length, get_or, Option, None, Some, refl, sym, ap}
use Rattle.std.proofs.Common.{◌∙◌, subst, arith, ◌⊎◌, inl, inr, ⊎_elim}
use Rattle.std.specs.List.{slice_get, Contains, All, AllPairs}
use Rattle.std.proofs.lemmas.List.Elements.{Contains-get_or}
use Rattle.std.proofs.lemmas.List.{get_or_past}
use Rattle.std.proofs.lemmas.Option.{slice_get-get_or, get_or_from_slice_get, slice_get_within}
use Rattle.std.proofs.lemmas.Bool.{cases_eq, cases_lt}
use Rattle.area_graph.specs.declared.vertex.Vertex.{Vertex}
use Rattle.area_graph.specs.declared.vertex.Vertex.TheVariants.{Router}
use Rattle.area_graph.specs.Vertex.{is_network}
use Rattle.area_graph.specs.Paths.{DirectedEdge, path_cost, IsPath, IsDistance}
use Rattle.area_graph.specs.declared.edge.Edge.{Edge}
use Rattle.area_graph.specs.Topology.{Topology, IsTopology, IsArc, IsEdge, row_at}

-- the vertex with a number
abbrev pub name : Topology → ℕ → Vertex
name t i = get_or t.vertices i (Router (record { 0 = 0 }))

-- each edge of a row leads to a vertex
pub targets_in_row : (t : Topology) → IsTopology t → (i : ℕ) (row : List Edge) → row ≡ row_at t i → All (λ (e : Edge). e.to < length t.vertices) row
targets_in_row t shape i row is k d lt =
    let e = get_or row k d in
    shape.in_range (record { from = i; to = e.to; cost = e.cost; link_data = e.link_data })
    (subst (λ (xs : List Edge). Contains xs e) is (Contains-get_or row k d lt))

-- and it is there once
pub once_in_row : (t : Topology) → IsTopology t → (i : ℕ) (row : List Edge) → row ≡ row_at t i → AllPairs (λ e f. e ≢ f) row
once_in_row t shape i row is = subst (λ (xs : List Edge). AllPairs (λ e f. e ≢ f) xs) (sym is) (shape.once i)

-- an edge by its vertices
abbrev pub named : Topology → DirectedEdge ℕ → DirectedEdge Vertex
named t e = record { from = name t e.from; to = name t e.to; cost = e.cost; link_data = e.link_data }

pub path_cost-named : (t : Topology) (es : List (DirectedEdge ℕ)) → path_cost (map (λ (e : DirectedEdge ℕ). named t e) es) ≡ path_cost es
path_cost-named t [] = refl
path_cost-named t (e ∷ es) = ap (λ (n : ℕ). e.cost + n) (path_cost-named t es)

module _ (t : Topology) (shape : IsTopology t) where
  -- an edge starts at a vertex
  pub IsArc-from : (e : DirectedEdge ℕ) → IsArc t e → e.from < length t.vertices
  IsArc-from e arc =
      ⊎_elim
      (λ within. (let rows : length t.rows ≡ length t.vertices = shape.a_row_each in omega arith))
      (λ past. absurd (none (subst (λ (xs : List Edge). Contains xs (record { to = e.to; cost = e.cost; link_data = e.link_data }))
      (get_or_past t.rows e.from [] past) arc)))
      (cases_lt e.from (length t.rows))
    where
      none : Contains {X = Edge} [] (record { to = e.to; cost = e.cost; link_data = e.link_data }) → ⊥
      none h = let below : h.0 < 0 = h.1 in omega arith

  pub IsEdge-named : (e : DirectedEdge ℕ) → IsArc t e → IsEdge t (named t e)
  IsEdge-named e arc = (
    e.from,
    e.to,
    arc,
    slice_get-get_or t.vertices e.from (Router (record { 0 = 0 }))
        (IsArc-from e arc),
    slice_get-get_or t.vertices e.to (Router (record { 0 = 0 })) (shape.in_range e arc),
  )

  -- the cost of an edge out of a router is not 0; that of an edge out of a network is 0, and it
  -- leads to a router
  pub arc_kind : (e : DirectedEdge ℕ) → IsArc t e → ((is_network (name t e.from) ≡ false) × (0 < e.cost)) ⊎
      ((is_network (name t e.from) ≡ true) × (e.cost ≡ 0) × (is_network (name t e.to) ≡ false))
  arc_kind e arc = by_kind (is_network (name t e.from)) refl
    where
      by_kind : (b : Bool) → is_network (name t e.from) ≡ b → ((is_network (name t e.from) ≡ false) × (0 < e.cost)) ⊎
          ((is_network (name t e.from) ≡ true) × (e.cost ≡ 0) × (is_network (name t e.to) ≡ false))
      by_kind true h = let k = shape.from_network (named t e) (IsEdge-named e arc) h in inr (h, k.0, k.1)
      by_kind false h = inl (h, shape.from_router (named t e) (IsEdge-named e arc) h)

  pub IsPath-named : (es : List (DirectedEdge ℕ)) (i j : ℕ) → IsPath (IsArc t) i es j
      → IsPath (IsEdge t) (name t i) (map (λ (e : DirectedEdge ℕ). named t e) es) (name t j)
  IsPath-named [] i j p = ap (λ (n : ℕ). name t n) p
  IsPath-named (e ∷ es) i j p = (IsEdge-named e p.0, ap (λ (n : ℕ). name t n) p.1, IsPath-named es e.to j p.2)

  -- a vertex has one number
  pub one_number : (i j : ℕ) (v : Vertex) → slice_get t.vertices i ≡ Some v → slice_get t.vertices j ≡ Some v → i ≡ j
  one_number i j v at_i at_j =
      ⊎_elim (λ same. same) (λ other. absurd (⊎_elim
      (λ lt. shape.distinct i j v lt (slice_get_within t.vertices j v at_j)
      (get_or_from_slice_get t.vertices i v v at_i ∙ sym (get_or_from_slice_get t.vertices j v v at_j)))
      (λ ge. (let lt : j < i = omega arith in shape.distinct j i v lt (slice_get_within t.vertices i v at_i)
      (get_or_from_slice_get t.vertices j v v at_j ∙ sym (get_or_from_slice_get t.vertices i v v at_i))))
      (cases_lt i j))) (cases_eq i j)

  -- an edge of the vertices is the name of one of the numbers
  edge_named : (e : DirectedEdge Vertex) (i j : ℕ) → slice_get t.vertices i ≡ Some e.from → slice_get t.vertices j ≡ Some e.to
      → e ≡ named t (record { from = i; to = j; cost = e.cost; link_data = e.link_data })
  edge_named e i j at_from at_to =
      let one : name t i ≡ e.from = get_or_from_slice_get t.vertices i e.from (Router (record { 0 = 0 })) at_from in
      let two : name t j ≡ e.to = get_or_from_slice_get t.vertices j e.to (Router (record { 0 = 0 })) at_to in
      ap (λ (v : Vertex). let f : DirectedEdge Vertex = record { from = v; to = e.to; cost = e.cost; link_data = e.link_data } in f) (sym one)
      ∙ ap (λ (v : Vertex). let f : DirectedEdge Vertex = record { from = name t i; to = v; cost = e.cost; link_data = e.link_data } in f) (sym two)

  -- each path of the vertices is the name of one of the numbers
  pub IsPath-numbered : (es : List (DirectedEdge Vertex)) (i : ℕ) (v w : Vertex) → slice_get t.vertices i ≡ Some v → IsPath (IsEdge t) v es w
      → (j : ℕ) × (fs : List (DirectedEdge ℕ)) × (slice_get t.vertices j ≡ Some w) × IsPath (IsArc t) i fs j × (es ≡ map (λ (e : DirectedEdge ℕ). named t e) fs)
  IsPath-numbered [] i v w at p = (i, [], subst (λ (x : Vertex). slice_get t.vertices i ≡ Some x) p at, refl, refl)
  IsPath-numbered (e ∷ es) i v w at ((k, l, arc, at_from, at_to), starts, rest) =
      let same : k ≡ i = one_number k i v (subst (λ (x : Vertex). slice_get t.vertices k ≡ Some x) starts at_from) at in
      let next = IsPath-numbered es l e.to w at_to rest in (
        next.0,
        (let f : DirectedEdge ℕ = record { from = k; to = l; cost = e.cost; link_data = e.link_data } in f) ∷ next.1,
        next.2,
        (arc, same, next.3),
        ap (λ (f : DirectedEdge Vertex). f ∷ es) (edge_named e k l at_from at_to)
            ∙ ap (λ (fs : List (DirectedEdge Vertex)). named t (record { from = k; to = l; cost = e.cost; link_data = e.link_data }) ∷ fs) next.4,
      )

  module _ (i j : ℕ) (v w : Vertex) (at_i : slice_get t.vertices i ≡ Some v) (at_j : slice_get t.vertices j ≡ Some w) where
    -- a path of the numbers, between vertices
    pub path_up : (es : List (DirectedEdge ℕ)) → IsPath (IsArc t) i es j → IsPath (IsEdge t) v (map (λ (e : DirectedEdge ℕ). named t e) es) w
    path_up es p =
        let named_path = IsPath-named es i j p in
        let one : name t i ≡ v = get_or_from_slice_get t.vertices i v (Router (record { 0 = 0 })) at_i in
        let two : name t j ≡ w = get_or_from_slice_get t.vertices j w (Router (record { 0 = 0 })) at_j in
        subst (λ (x : Vertex). IsPath (IsEdge t) x (map (λ (e : DirectedEdge ℕ). named t e) es) w) one
        (subst (λ (x : Vertex). IsPath (IsEdge t) (name t i) (map (λ (e : DirectedEdge ℕ). named t e) es) x) two named_path)

    -- and back
    pub path_down : (es : List (DirectedEdge Vertex)) → IsPath (IsEdge t) v es w
        → (fs : List (DirectedEdge ℕ)) × IsPath (IsArc t) i fs j × (es ≡ map (λ (e : DirectedEdge ℕ). named t e) fs)
    path_down es p =
        let q = IsPath-numbered es i v w at_i p in
        let same : q.0 ≡ j = one_number q.0 j w q.2 at_j in
        (q.1, subst (λ (n : ℕ). IsPath (IsArc t) i q.1 n) same q.3, q.4)

    cost_down : (es : List (DirectedEdge Vertex)) (fs : List (DirectedEdge ℕ)) → es ≡ map (λ (e : DirectedEdge ℕ). named t e) fs → path_cost es ≡ path_cost fs
    cost_down es fs is = ap (λ (x : List (DirectedEdge Vertex)). path_cost x) is ∙ path_cost-named t fs

    -- the distance between two vertices is that between their numbers
    pub IsDistance-up : (o : Option ℕ) → IsDistance (IsArc t) i j o → IsDistance (IsEdge t) v w o
    IsDistance-up None none = λ es p. (let q = path_down es p in none q.0 q.1)
    IsDistance-up (Some d) ((es, p, c), least) = (
      (map (λ (e : DirectedEdge ℕ). named t e) es, path_up es p, path_cost-named t es ∙ c),
      λ fs q. let r = path_down fs q in subst (λ (n : ℕ). d ≤ n) (sym (cost_down fs r.0 r.2)) (least r.0 r.1),
    )

    pub IsDistance-down : (o : Option ℕ) → IsDistance (IsEdge t) v w o → IsDistance (IsArc t) i j o
    IsDistance-down None none = λ es p. none (map (λ (e : DirectedEdge ℕ). named t e) es) (path_up es p)
    IsDistance-down (Some d) ((es, p, c), least) =
        let q = path_down es p in (
          (q.0, q.1, sym (cost_down es q.0 q.2) ∙ c),
          λ fs r. subst (λ (n : ℕ). d ≤ n) (path_cost-named t fs) (least (map (λ (e : DirectedEdge ℕ). named t e) fs) (path_up fs r)),
        )
