use Rattle.summary_metrics.proofs.NextPass.{invalidated}
use Rattle.summary_metrics.proofs.metrics.SummaryMetrics.invalidate_backbone.Goals as goal

pub returns : goal.returns
returns g c =
    λ db is all. invalidated db is c.args.self.now c.self.inside.attached c.self.inside.trees c.self.inside.inside
    c.self.inside.summaries c.self.view_is all
