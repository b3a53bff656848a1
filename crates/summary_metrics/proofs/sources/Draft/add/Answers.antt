use Rattle.std.proofs.Common.{sym, subst, ◌∙◌}
use Rattle.summary_metrics.specs.BackboneSummaries.{AreAnnounced, BackboneSummariesValue}
use Rattle.summary_metrics.proofs.MoreAnnounced.{announcing, asbr_more, net_more, announced_nothing, not_announcing}
use Rattle.summary_metrics.proofs.sources.Draft.add.Goals as goal

pub returns-in_default : goal.returns-in_default
returns-in_default g c = λ lsas all.
    announced_nothing lsas c.args.lsa.now c.args.self.now all (not_announcing c.args.lsa.now (sym c.in_default.is ∙ c.announced_source.ensures))

pub returns-in-Some-announced_net : goal.returns-in-Some-announced_net
returns-in-Some-announced_net g c = λ lsas all.
    let P : BackboneSummariesValue → Type 0 = AreAnnounced lsas in
    let announces = announcing c.args.lsa.now c.in-Some.source (sym c.in-Some.is ∙ c.announced_source.ensures) in
    net_more lsas c.args.lsa.now (record { nets = c.self.inside.nets.entries; asbrs = c.self.inside.asbrs.entries }) (subst P (sym c.self.view_is) all)
    c.in-Some-announced_net.net c.in-Some.source c.add_source.new.summaries.entries announces.0 (sym c.announced_net.ensures ∙ c.in-Some-announced_net.is) announces.1
    c.in_ok-add_source.ensures.0

pub returns-in_ok-add_source-2 : goal.returns-in_ok-add_source-2
returns-in_ok-add_source-2 g c = λ lsas all.
    let P : BackboneSummariesValue → Type 0 = AreAnnounced lsas in
    let announces = announcing c.args.lsa.now c.in-Some.source (sym c.in-Some.is ∙ c.announced_source.ensures) in
    asbr_more lsas c.args.lsa.now (record { nets = c.self.inside.nets.entries; asbrs = c.self.inside.asbrs.entries }) (subst P (sym c.self.view_is) all)
    c.in-Some-announced_asbr.asbr c.in-Some.source c.add_source-in-Some-announced_asbr.new.summaries.entries announces.0 (sym c.announced_net.ensures ∙ c.in_default-announced_net.is)
    (sym c.announced_asbr.ensures ∙ c.in-Some-announced_asbr.is) announces.1 c.in_ok-add_source-2.ensures.0
