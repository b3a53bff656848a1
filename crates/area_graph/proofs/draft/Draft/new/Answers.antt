use Rattle.std.proofs.Common.{◌∙◌}
use Rattle.std.proofs.lemmas.List.{length-map}
use Rattle.area_graph.proofs.DraftSteps.{empty_draft}
use Rattle.area_graph.proofs.draft.Draft.new.Goals as goal

pub invariant_of-result : goal.invariant_of-result
invariant_of-result g c =
    empty_draft _ (length-map c.in_ok-rows.rows.items (λ row. row.items) ∙ c.in_ok-rows.ensures.count ∙ c.len.ensures.len) c.requires.distinct c.requires.few c.in_ok-rows.ensures.empty
