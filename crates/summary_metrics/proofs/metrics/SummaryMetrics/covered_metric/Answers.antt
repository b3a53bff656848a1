use Rattle.std.proofs.Common.{sym, subst}
use Rattle.lsa_codec.specs.declared.key.Key.{Key}
use Rattle.lsdb.specs.Slots.{lists_of}
use Rattle.summary_metrics.specs.SummaryMetrics.{AreInside, AreOf, SummaryMetricsValue}
use Rattle.summary_metrics.proofs.KnownMetrics.{Known, inside_found, known_as, more_inside, stale_is}
use Rattle.summary_metrics.proofs.metrics.SummaryMetrics.covered_metric.Goals as goal

pub other_metric-requires-clause-known : goal.other_metric-requires-clause-known
other_metric-requires-clause-known g c =
    subst (λ (key : Key). AreInside (lists_of c.args.database.now) key.adv c.in-Some.known.now) c.key.ensures
    (inside_found (lists_of c.args.database.now)
    (known_as c.self.inside.attached c.self.inside.trees c.self.inside.inside c.self.inside.summaries) c.key.result.adv c.in-Some.known.now
    (subst (λ (known : SummaryMetricsValue). AreOf (lists_of c.args.database.now) known) (sym c.self.view_is) c.requires.of)
    c.in-Some.ensures)

pub returns-in-Some-clause-metric : goal.returns-in-Some-clause-metric
returns-in-Some-clause-metric g c =
    stale_is (lists_of c.args.database.now) c.args.area c.args.lsa.now c.requires.covered c.other_metric.result c.other_metric.ensures.metric

pub returns-clause-metric : goal.returns-clause-metric
returns-clause-metric g c =
    stale_is (lists_of c.args.database.now) c.args.area c.args.lsa.now c.requires.covered c.other_metric-metric.result c.other_metric-metric.ensures.metric

pub returns-clause-of : goal.returns-clause-of
returns-clause-of g c =
    subst (λ (known : Known). AreOf (lists_of c.args.database.now) (known_as c.self-2.inside.attached c.self-2.inside.trees known c.self-2.inside.summaries))
    (sym c.in_ok-push.ensures.pushed)
    (more_inside (lists_of c.args.database.now) c.key.result.adv _ c.self-2.inside.inside c.self-2.inside.attached c.self-2.inside.trees
    c.self-2.inside.summaries (subst (λ (known : SummaryMetricsValue). AreOf (lists_of c.args.database.now) known) (sym c.self-2.view_is) c.find_inside.ensures.of)
    c.in_ok-known.ensures.inside)
