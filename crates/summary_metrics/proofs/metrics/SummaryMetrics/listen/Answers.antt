use Rattle.std.proofs.Common.{ℕ, List, subst}
use Rattle.lsdb.specs.Slots.{lists_of}
use Rattle.summary_metrics.specs.BackboneSummaries.{AreAnnounced}
use Rattle.summary_metrics.proofs.KnownMetrics.{more_announced}
use Rattle.summary_metrics.proofs.metrics.SummaryMetrics.listen.Goals as goal

pub returns-clause-of : goal.returns-clause-of
returns-clause-of g c =
    more_announced (lists_of c.args.database.now) c.args.self.now c.requires c.self.inside.attached c.self.inside.trees c.self.inside.inside
    c.self.inside.summaries c.in_ok-of.field-0 c.self.view_is
    (subst (λ (lsas : List (List ℕ)). AreAnnounced lsas c.in_ok-of.field-0) c.lsas-lsas.ensures.lsas c.in_ok-of.ensures)
