use Rattle.std.proofs.Common.{◌∷◌, [], ◌++◌, List, take, sym, ap, subst, ◌∙◌}
use Rattle.std.proofs.lemmas.List.{take_more}
use Rattle.area_routes.specs.Values.{EntryValue}
use Rattle.summary_metrics.specs.SummaryMetrics.{HasCosts}
use Rattle.summary_metrics.proofs.border_costs.costs_of.Goals as goal

pub loop-entry-preserved : goal.loop-entry-preserved
loop-entry-preserved g c =
    let entries = c.args.entries.now in
    let i = c.loop-entry.entry-index in
    let P : List EntryValue → Type 0 = λ es. HasCosts es c.insert_cost.new.costs.entries in
    subst P (ap (λ e. take i entries ++ e ∷ []) c.entry-item.is ∙ sym (take_more entries i c.entry-item.result c.loop-entry-test.true))
    (c.in_ok-insert_cost.ensures (take i entries) c.loop-entry.invariant)
