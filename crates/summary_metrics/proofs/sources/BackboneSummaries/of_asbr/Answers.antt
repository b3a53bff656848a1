use Rattle.std.proofs.Common.{sym, ap, subst, ◌∙◌}
use Rattle.summary_metrics.specs.BackboneSummaries.{AreAnnounced, BackboneSummariesValue, sources_or_none}
use Rattle.summary_metrics.proofs.sources.BackboneSummaries.of_asbr.Goals as goal

pub returns-in-Some : goal.returns-in-Some
returns-in-Some g c = λ lsas summaries.
    let P : BackboneSummariesValue → Type 0 = AreAnnounced lsas in
    c.as_slice.ensures ∙ ap sources_or_none c.in-Some.ensures.value ∙ (subst P (sym c.self.view_is) summaries).asbrs c.args.asbr

pub returns-in-None : goal.returns-in-None
returns-in-None g c = λ lsas summaries.
    let P : BackboneSummariesValue → Type 0 = AreAnnounced lsas in
    ap sources_or_none c.in-None.ensures.value ∙ (subst P (sym c.self.view_is) summaries).asbrs c.args.asbr
