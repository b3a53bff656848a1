use Rattle.std.proofs.Common.{◌≡◌, ◌++◌, drop}
use Rattle.edit_history.specs.Effect.{router_fate}
use Rattle.edit_history.specs.steps.Plans.{swaps_from}
use Rattle.edit_history.proofs.failures.plan_fail_router.Given as goal

abbrev pub invariant-loop-number : goal.invariant-loop-number
invariant-loop-number g l =
    l.swaps.items ++ swaps_from (λ head. router_fate l.router) l.number (drop l.number l.database) ≡ swaps_from
    (λ head. router_fate l.router) 0 l.database
