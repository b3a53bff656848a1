use Rattle.std.proofs.Common.{sym, ap, subst, ◌∙◌}
use Rattle.std.specs.Option.{option_map}
use Rattle.summary_metrics.specs.BackboneSummaries.{AreAnnounced, BackboneSummariesValue, sources_or_none}
use Rattle.summary_metrics.proofs.NearPlaces.{found_by_net, lookup_found, missing_by_net}
use Rattle.summary_metrics.proofs.sources.BackboneSummaries.of_net.Goals as goal

pub returns-in-Some : goal.returns-in-Some
returns-in-Some g c = λ lsas summaries.
    let P : BackboneSummariesValue → Type 0 = AreAnnounced lsas in
    let entries = c.self.inside.by_net.items in
    c.as_slice.ensures
    ∙ ap (λ o. sources_or_none (option_map (λ e. e.1) o)) (found_by_net (λ e. e.0) entries c.self.inside.nets c.self.invariant c.args.net c.in-Some.place
    c.index.result.now c.place_of.ensures.sorted c.in-Some.ensures.at.0 c.in-Some.ensures.at.1 c.index.ensures)
    ∙ ap sources_or_none (sym (lookup_found c.args.net entries)) ∙ (subst P (sym c.self.view_is) summaries).nets c.args.net

pub returns-in-None : goal.returns-in-None
returns-in-None g c = λ lsas summaries.
    let P : BackboneSummariesValue → Type 0 = AreAnnounced lsas in
    let entries = c.self.inside.by_net.items in
    ap (λ o. sources_or_none (option_map (λ e. e.1) o)) (sym (missing_by_net (λ e. e.0) entries c.self.inside.nets c.self.invariant c.args.net c.in-None.ensures.at))
    ∙ ap sources_or_none (sym (lookup_found c.args.net entries)) ∙ (subst P (sym c.self.view_is) summaries).nets c.args.net
