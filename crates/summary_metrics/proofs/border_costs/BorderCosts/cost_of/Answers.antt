use Rattle.std.proofs.Common.{ℕ, ◌<◌, ◌^◌, List, Option, IfSome, sym, subst}
use Rattle.lsa_codec.specs.declared.address.RouterId.{RouterId}
use Rattle.summary_metrics.specs.steps.AnnouncedCosts.{CostsBelow}
use Rattle.summary_metrics.proofs.border_costs.BorderCosts.cost_of.Goals as goal

pub returns-clause-below : goal.returns-clause-below
returns-clause-below g c =
    subst (λ (o : Option ℕ). IfSome o (λ cost. cost < 2 ^ 33)) (sym c.look_up.ensures)
    (subst (λ (costs : List (RouterId × ℕ)). CostsBelow costs) c.self.view_is c.self.invariant.0 c.args.router)
