use Rattle.std.proofs.Common.{rules, arith, ◌≡◌, ap, ◌∙◌}
use Rattle.std.specs.Map.{lookup}
use Rattle.std.specs.Ordering.{eq_by_cmp}
use Rattle.lsa_codec.specs.Order.{router_cmp}
use Rattle.summary_metrics.proofs.RouterPlaces.{value_there}
use Rattle.summary_metrics.proofs.border_costs.BorderCosts.cost_at.Goals as goal

pub returns : goal.returns
returns g c =
    let same : c.index.result.now.0 ≡ c.args.router = search rules in
    value_there c.args.router c.self.inside.costs.items c.self.invariant.1 c.args.place c.index.result.now (omega arith) c.index.ensures same
    ∙ ap (lookup (eq_by_cmp router_cmp c.args.router)) c.self.view_is
