use Rattle.std.proofs.Common.{ap, sym, ◌∙◌}
use Rattle.lsdb.specs.declared.transit_filters.TransitFilter.{TransitFilter}
use Rattle.lsdb.specs.steps.Filtering.{no_networks, with_link}
use Rattle.lsdb.proofs.Filters.{one_link_more}
use Rattle.lsdb.proofs.transit_filters.TransitFilter.of_links.Goals as goal

pub loop-link-preserved : goal.loop-link-preserved
loop-link-preserved c =
    c.with_link-filter.ensures
    ∙ ap (λ (filter : TransitFilter). with_link filter c.in-Some.link) c.loop-link.invariant
    ∙ sym (one_link_more c.loop-link.yielded no_networks c.in-Some.link)
