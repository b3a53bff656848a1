use Rattle.std.proofs.Common.{rules, ap, ◌∙◌}
use Rattle.std.specs.Map.{lookup}
use Rattle.std.specs.Ordering.{eq_by_cmp}
use Rattle.std.proofs.lemmas.List.Sorted.{answers_always}
use Rattle.lsa_codec.specs.Order.{router_cmp}
use Rattle.summary_metrics.proofs.RouterPlaces.{sorted_same, value_at, value_missing}
use Rattle.summary_metrics.proofs.border_costs.BorderCosts.search.Goals as goal

pub returns-in-Ok : goal.returns-in-Ok
returns-in-Ok g c =
    let at = c.in-Ok.ensures.position (λ e. e.0) (answers_always _ _ _ (λ f a r h called. search rules)) in
    let costs = c.as_slice-costs.result.now in
    value_at c.args.router costs (sorted_same costs c.self.inside.costs.items c.as_slice-costs.ensures.value c.self.invariant.1) c.in-Ok.place _
    c.in-Ok.ensures.bound at
    ∙ ap (lookup (eq_by_cmp router_cmp c.args.router)) (c.as_slice-costs.ensures.value ∙ c.self.view_is)

pub returns-in-Err : goal.returns-in-Err
returns-in-Err g c =
    let at = c.in-Err.ensures.position (λ e. e.0) (answers_always _ _ _ (λ f a r h called. search rules)) in
    let costs = c.as_slice-costs.result.now in
    value_missing c.args.router costs (sorted_same costs c.self.inside.costs.items c.as_slice-costs.ensures.value c.self.invariant.1) c.in-Err.field-0 at
    ∙ ap (lookup (eq_by_cmp router_cmp c.args.router)) (c.as_slice-costs.ensures.value ∙ c.self.view_is)
