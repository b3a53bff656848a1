use Rattle.std.proofs.Common.{◌∙◌, sym, subst}
use Rattle.lsdb.specs.Slots.{lists_of}
use Rattle.summary_metrics.specs.SummaryMetrics.{AreOf, SummaryMetricsValue}
use Rattle.summary_metrics.proofs.AttachedIds.{borders_by_ids}
use Rattle.summary_metrics.proofs.KnownMetrics.{Attached, attached_found, known_as, more_attached, trees_known}
use Rattle.summary_metrics.proofs.metrics.SummaryMetrics.borders.Goals as goal

pub returns-in-Some-clause-borders : goal.returns-in-Some-clause-borders
returns-in-Some-clause-borders g c =
    c.is_border_of.ensures
    ∙ borders_by_ids (lists_of c.args.database.now) c.args.area c.args.router c.in-Some.areas.now
    (attached_found (lists_of c.args.database.now) (known_as c.self.inside.attached c.self.inside.trees c.self.inside.inside c.self.inside.summaries) c.args.router
    c.in-Some.areas.now (subst (λ (known : SummaryMetricsValue). AreOf (lists_of c.args.database.now) known) (sym c.self.view_is) c.requires)
    c.in-Some.ensures)

pub returns-clause-borders : goal.returns-clause-borders
returns-clause-borders g c =
    c.is_border_of-borders.ensures
    ∙ borders_by_ids (lists_of c.args.database.now) c.args.area c.args.router c.in_ok-areas.areas c.in_ok-areas.ensures

pub returns-clause-of : goal.returns-clause-of
returns-clause-of g c =
    subst (λ (attached : Attached). AreOf (lists_of c.args.database.now) (known_as attached c.self.inside.trees c.self.inside.inside c.self.inside.summaries))
    (sym c.in_ok-push.ensures.pushed)
    (more_attached (lists_of c.args.database.now) c.args.router _ c.self.inside.attached c.self.inside.trees c.self.inside.inside c.self.inside.summaries
    (subst (λ (known : SummaryMetricsValue). AreOf (lists_of c.args.database.now) known) (sym c.self.view_is) c.requires) c.in_ok-areas.ensures)

pub of-requires : goal.of-requires
of-requires g c =
    trees_known (lists_of c.args.database.now) c.args.self.now c.requires c.self.inside.attached c.self.inside.trees c.self.inside.inside
    c.self.inside.summaries c.self.view_is
