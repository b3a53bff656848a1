use Rattle.std.proofs.Common.{◌≡◌, rules, vec_len, ap, ◌∙◌, ◌++◌, ◌∷◌, [], List, length}
use Rattle.area_graph.specs.declared.edge.Edge.{Edge}
use Rattle.area_graph.specs.steps.Spans.{rows_at}
use Rattle.area_graph.proofs.Spanning.{rows_at-push}
use Rattle.area_graph.proofs.rows.Rows.push.Goals as goal

pub returns : goal.returns
returns g c =
    let edges = c.in_ok-extend_from_slice.ensures.items in
    let old_len : vec_len c.self.inside.edges ≡ length c.self.inside.edges.items = search rules in
    let new_len : vec_len c.extend_from_slice.new.self ≡ length c.extend_from_slice.new.self.items = search rules in
    (λ i. rows_at (edges i) (c.in_ok-push.ensures.items i))
    ∙ rows_at-push c.self.inside.edges.items c.args.row.now c.self.inside.spans.items (record { start = c.in_ok-start.start; end = c.in_ok-end.end })
    c.self.invariant.0 (c.in_ok-start.ensures ∙ c.len.ensures ∙ old_len) (c.in_ok-end.ensures ∙ c.len-2.ensures ∙ new_len ∙ ap (λ (es : List Edge). length es) edges)
    ∙ ap (λ (rows : List (List Edge)). rows ++ c.args.row.now ∷ []) c.self.view_is
