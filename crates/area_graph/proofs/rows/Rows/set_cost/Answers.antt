use Rattle.std.proofs.Common.{◌≡◌, ◌∙◌, ◌++◌, ◌-◌, ◌<◌, ◌≤◌, List, [], map, take, drop, length, get_or, Some, ap, sym, subst, arith, slice_set, slice_range}
use Rattle.std.specs.Prelude.{All, AllPairs, ℕ}
use Rattle.std.proofs.lemmas.List.{get_or-map, length-append, length-drop, length-map, length-take, with_items_is}
use Rattle.std.proofs.lemmas.Option.{slice_get-get_or}
use borrow.Rule.Slice.PartMut.{Post-is}
use Rattle.area_graph.specs.declared.edge.Edge.{Edge}
use Rattle.area_graph.specs.declared.rows.Span.{Span}
use Rattle.area_graph.specs.steps.CostRows.{with_cost}
use Rattle.area_graph.specs.steps.Spans.{IsWithin, rows_at}
use Rattle.area_graph.proofs.Spanning.{rows_at-written}
use Rattle.area_graph.proofs.rows.Rows.set_cost.Goals as goal

-- the rows with another list in one of the spans
in_span : (xs : List Edge) (spans : List Span) (i : ℕ) (s : Span) (f : Edge → Edge) (ys rest : List Edge) → s ≡ get_or spans i s → i < length spans
    → All (IsWithin (length xs)) spans → AllPairs (λ a b. a.end ≤ b.start) spans → ys ≡ map f (slice_range xs s.start s.end)
    → (s.start ≤ s.end → rest ≡ drop s.end xs)
    → rows_at (take s.start xs ++ (ys ++ rest)) spans ≡ slice_set (rows_at xs spans) i (map f (get_or (rows_at xs spans) i []))
in_span xs spans i s f ys rest at lt each apart is after =
    let within : IsWithin (length xs) s = subst (IsWithin (length xs)) (sym at) (each i s lt) in
    let up : s.start ≤ s.end = within.0 in
    let size : length ys ≡ s.end - s.start =
    ap (λ (zs : List Edge). length zs) is ∙ length-map (slice_range xs s.start s.end) f ∙ omega (arith, length-take (s.end - s.start) (drop s.start xs), length-drop s.start xs, within.0, within.1) in
    ap (λ (zs : List Edge). rows_at (take s.start xs ++ (ys ++ zs)) spans) (after up)
    ∙ rows_at-written xs ys s up within.1 size spans i (slice_get-get_or spans i s lt ∙ ap (λ (t : Span). Some t) (sym at)) each apart
    ∙ ap (slice_set (rows_at xs spans) i) (is ∙ ap (map f)
    (ap (λ (t : Span). slice_range xs t.start t.end) at ∙ sym (get_or-map (λ (t : Span). slice_range xs t.start t.end) spans i s [] lt)))

-- the number of edges is as before
whole : (xs : List Edge) (s : Span) (f : Edge → Edge) (ys : List Edge) (n : ℕ) → IsWithin (length xs) s → ys ≡ map f (slice_range xs s.start s.end)
    → length xs ≡ n → length (take s.start xs ++ (ys ++ drop (s.end - s.start) (drop s.start xs))) ≡ n
whole xs s f ys n within is size =
    let up = within.0 in
    let past = within.1 in
    let mid : length ys ≡ s.end - s.start =
    ap (λ (zs : List Edge). length zs) is ∙ length-map (slice_range xs s.start s.end) f ∙ omega (arith, length-take (s.end - s.start) (drop s.start xs), length-drop s.start xs, within.0, within.1) in
    let rest = drop (s.end - s.start) (drop s.start xs) in
    omega (
      arith,
      length-append (take s.start xs) (ys ++ rest),
      length-append ys rest,
      mid,
      length-take s.start xs,
      length-drop (s.end - s.start) (drop s.start xs),
      length-drop s.start xs,
    )

pub returns-clause-set : goal.returns-clause-set
returns-clause-set g c =
    let xs : List Edge = c.deref_mut.result.now in
    let s : Span = c.index-span.result.now in
    let spans : List Span = c.self.inside.spans.items in
    let value : xs ≡ c.self.inside.edges.items = c.deref_mut.ensures.value in
    let change : Edge → Edge = with_cost c.args.to c.args.link_data c.args.cost in
    let view : rows_at xs spans ≡ c.args.self.now = ap (λ (es : List Edge). rows_at es spans) value ∙ c.self.view_is in
    let lt : c.args.row < length spans = omega (arith, c.requires, ap (λ (rs : List (List Edge)). length rs) view, length-map spans (λ (t : Span). slice_range xs t.start t.end)) in
    let ys : List Edge = c.set_costs.new.row in
    let within : IsWithin (length xs) s = subst (IsWithin (length xs)) (sym c.index-span.ensures)
    (subst (λ (es : List Edge). All (IsWithin (length es)) spans) (sym value) c.self.invariant.0 c.args.row s lt) in
    ap (λ (es : List Edge). rows_at es spans)
    (with_items_is c.self.inside.edges (take s.start xs ++ (ys ++ drop (s.end - s.start) (drop s.start xs)))
    (whole xs s change ys c.self.inside.edges.len within c.set_costs.ensures c.deref_mut.ensures.len))
    ∙ in_span xs spans c.args.row s change ys (drop (s.end - s.start) (drop s.start xs)) c.index-span.ensures lt
    (subst (λ (es : List Edge). All (IsWithin (length es)) spans) (sym value) c.self.invariant.0) c.self.invariant.1 c.set_costs.ensures
    (Post-is s.start s.end xs)
    ∙ ap (λ (rs : List (List Edge)). slice_set rs c.args.row (map change (get_or rs c.args.row []))) view
