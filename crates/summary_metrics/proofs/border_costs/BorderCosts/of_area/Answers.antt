use Rattle.std.proofs.Common.{◌^◌, ℕ, List, sym, subst, ◌∙◌}
use Rattle.area_routes.specs.Values.{EntriesBelow}
use Rattle.lsa_codec.specs.declared.address.RouterId.{RouterId}
use Rattle.summary_metrics.specs.SummaryMetrics.{HasCosts}
use Rattle.summary_metrics.specs.steps.AnnouncedCosts.{CostsBelow}
use Rattle.summary_metrics.proofs.MoreCosts.{costs_below}
use Rattle.summary_metrics.proofs.border_costs.BorderCosts.of_area.Goals as goal

pub from_sorted-requires-clause-below : goal.from_sorted-requires-clause-below
from_sorted-requires-clause-below g c =
    subst CostsBelow (sym c.in_ok-in_order.ensures.entries)
    (costs_below c.entries.result.now c.in_ok-costs.costs.entries
    (subst (EntriesBelow (2 ^ 33)) (sym c.entries.ensures.entries) c.entries.ensures.below.entries) c.in_ok-costs.ensures)

pub returns : goal.returns
returns g c =
    let P : List (RouterId × ℕ) → Type 0 = HasCosts c.args.area.now.entries in
    subst P (sym (c.from_sorted.ensures ∙ c.in_ok-in_order.ensures.entries))
    (subst (λ es. HasCosts es c.in_ok-costs.costs.entries) c.entries.ensures.entries c.in_ok-costs.ensures)
