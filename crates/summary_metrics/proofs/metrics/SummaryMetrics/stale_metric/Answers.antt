use Rattle.std.proofs.Common.{◌≡◌, true, ◌∙◌, sym, subst}
use Rattle.lsa_codec.specs.declared.key.Key.{Key}
use Rattle.lsdb.specs.Slots.{lists_of}
use Rattle.external_routes.specs.Summaries.{borders}
use Rattle.summary_metrics.proofs.KnownMetrics.{calculated_covered}
use Rattle.summary_metrics.proofs.metrics.SummaryMetrics.stale_metric.Goals as goal

pub covered_metric-requires-clause-covered : goal.covered_metric-requires-clause-covered
covered_metric-requires-clause-covered g c =
    calculated_covered (lists_of c.args.database.now) c.args.area c.args.lsa.now (sym c.is_calculated.ensures ∙ c.if-not-is_calculated.false)
    (subst (λ (key : Key). borders (lists_of c.args.database.now) c.args.area key.adv ≡ true) c.key.ensures
    (sym c.in_ok-borders.ensures.borders ∙ c.if-not-branch.false))
