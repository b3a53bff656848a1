use Rattle.std.proofs.Common.{◌≡◌, ◌+◌, true, false, refl, sym, ◌∙◌, subst, arith, rules}
use Rattle.std.proofs.lemmas.Result.{err_from_is_err_and}
use Rattle.edit_script.specs.declared.edit.Edit.TheVariants.{FailRouter}
use Rattle.edit_history.specs.declared.fault.EditFault.{EditFault}
use Rattle.edit_history.specs.Rules.{by_fates}
use Rattle.edit_history.specs.Effect.{router_fate}
use Rattle.edit_history.specs.steps.Plans.{swaps_from}
use Rattle.edit_history.specs.Applied.{IsRefused}
use Rattle.edit_history.proofs.Searches.{exists_at}
use Rattle.edit_history.proofs.RulesCarriedOut.{planned_here, no_memory}
use Rattle.edit_history.proofs.FailureFates.{router_carried_out, section_turn, section_end}
use Rattle.edit_history.proofs.FailureRules.{router_none, router_ruled}
use Rattle.edit_history.proofs.failures.plan_fail_router.Goals as goal

pub returns-then-not-has_router : goal.returns-then-not-has_router
returns-then-not-has_router g c =
    let none : c.has_router.result ≡ false = search rules in
    router_none c.args.database.now c.args.router (sym c.has_router.ensures ∙ none)

pub add_swaps_of_router-requires : goal.add_swaps_of_router-requires
add_swaps_of_router-requires g c = exists_at c.args.database.now c.loop-number.number (omega arith)

pub loop-number-preserved : goal.loop-number-preserved
loop-number-preserved g c =
    section_turn (λ head. router_fate c.args.router) c.args.database.now c.loop-number.number (c.loop-number.number + 1) _ _ _ _
    (omega arith) (omega arith) refl c.in_ok-add_swaps_of_router.ensures.swaps c.loop-number.invariant

pub returns-in_err-add_swaps_of_router : goal.returns-in_err-add_swaps_of_router
returns-in_err-add_swaps_of_router g c =
    let gave = err_from_is_err_and c.from_residual.result c.from_residual.ensures.1 in
    let there : c.has_router.result ≡ true = search rules in
    rw (gave.1, gave.2) (subst (λ (e : EditFault). IsRefused c.args.database.now (FailRouter c.args.router) e) (sym c.in_err-add_swaps_of_router.ensures.memory)
    (no_memory c.args.database.now (FailRouter c.args.router) _
    (router_ruled c.args.database.now c.args.router (sym c.has_router.ensures ∙ there))))

pub returns : goal.returns
returns g c =
    let there : c.has_router.result ≡ true = search rules in
    planned_here c.args.database.now (FailRouter c.args.router) (by_fates (λ head. router_fate c.args.router))
    (swaps_from (λ head. router_fate c.args.router) 0 c.args.database.now) c.loop-number.swaps.items
    (router_ruled c.args.database.now c.args.router (sym c.has_router.ensures ∙ there))
    (router_carried_out c.args.database.now c.args.router c.assert_valid.ensures)
    (section_end (λ head. router_fate c.args.router) c.args.database.now c.loop-number.number _ _ (omega arith) c.loop-number.invariant)
