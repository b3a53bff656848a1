use Rattle.std.proofs.Common.{ap, ◌∙◌}
use Rattle.area_routes.specs.Inter.{entries_of_all}
use Rattle.external_routes.specs.Choose.{preferred}
use Rattle.summary_metrics.proofs.AsbrEntries.{preferred_same}
use Rattle.summary_metrics.proofs.inside.Inside.entry_of.Goals as goal

pub returns : goal.returns
returns g c = λ results given.
    c.preferred.ensures
    ∙ ap (λ es. preferred es c.args.asbr) (c.as_slice.ensures.entries ∙ ap (λ i. i.entries) c.self.view_is ∙ given.entries)
    ∙ preferred_same (entries_of_all results) c.args.asbr
