use Rattle.std.proofs.Common.{take, sym, ap, ◌∙◌}
use Rattle.std.proofs.lemmas.List.{take_more}
use Rattle.summary_metrics.specs.steps.AnnouncedCosts.{lesser_cost, announced_from}
use Rattle.summary_metrics.proofs.MoreCosts.{announced_push}
use Rattle.summary_metrics.proofs.border_costs.BorderCosts.announced_from.Goals as goal

pub loop-source-preserved : goal.loop-source-preserved
loop-source-preserved g c =
    let sources = c.args.sources.now in
    let i = c.loop-source.source-index in
    let router = c.args.router in
    let costs = c.args.self.now in
    c.lesser-least.ensures
    ∙ (λ j. lesser_cost (c.loop-source.invariant j) (c.cost_from.ensures j))
    ∙ sym (announced_push router costs (take i sources) _)
    ∙ ap (announced_from router costs) (sym (take_more sources i _ c.loop-source-test.true))
