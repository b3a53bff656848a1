use Rattle.std.proofs.Common.{◌∙◌, ap, length, get_or, [], map, ◌+◌}
use Rattle.std.proofs.lemmas.List.{length_push}
use Rattle.area_graph.proofs.DraftSteps.{empty_push}
use Rattle.area_graph.proofs.draft.empty_rows.Goals as goal

pub loop-preserved : goal.loop-preserved
loop-preserved g c = (
  ap length c.in_ok-push.ensures.items ∙ length_push c.loop.rows.items c.new.result ∙ ap (λ k. k + 1) c.loop.invariant.0,
  λ i. ap (λ rs. get_or (map (λ row. row.items) rs) i []) c.in_ok-push.ensures.items
      ∙ empty_push (λ row. row.items) c.loop.rows.items c.new.result c.loop.invariant.1 c.new.ensures.items i,
)
