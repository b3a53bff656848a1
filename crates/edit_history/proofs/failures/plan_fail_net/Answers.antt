use Rattle.std.proofs.lemmas.Result.{err_from_is_err_and}
use Rattle.lsdb.specs.declared.section.Section.TheVariants.{Area}
use Rattle.lsdb.specs.Slots.{lists_of, slots_in}
use Rattle.edit_script.specs.declared.edit.Edit.TheVariants.{FailNet}
use Rattle.edit_history.specs.Rules.{within}
use Rattle.edit_history.specs.Effect.{net_fate}
use Rattle.edit_history.specs.steps.Plans.{section_swaps}
use Rattle.edit_history.proofs.NamedLsas.{no_area_refused}
use Rattle.edit_history.proofs.Searches.{there_too}
use Rattle.edit_history.proofs.RulesCarriedOut.{planned_here, no_memory, plan_of}
use Rattle.edit_history.proofs.FailureFates.{net_safe, section_carried_out}
use Rattle.edit_history.proofs.FailureRules.{net_row, net_none, net_ruled}
use Rattle.edit_history.proofs.failures.plan_fail_net.Goals as goal

pub returns-in_err-number : goal.returns-in_err-number
returns-in_err-number g c =
    let gave = err_from_is_err_and c.from_residual.result c.from_residual.ensures.1 in
    rw (gave.1, gave.2) (no_area_refused c.args.database.now (FailNet c.args.area c.args.network) c.args.area _ _
    (net_row (lists_of c.args.database.now) c.args.area c.args.network) c.in_err-number.ensures.refused c.in_err-number.ensures.absent)

pub returns-in_default : goal.returns-in_default
returns-in_default g c =
    net_none c.args.database.now c.args.area c.args.network c.in_ok-number.number c.in_ok-number.ensures.found c.in_default.ensures

pub swaps_of_network-requires : goal.swaps_of_network-requires
swaps_of_network-requires g c = there_too c.args.database.now c.in_ok-number.number c.in_ok-number.ensures.found.exists

pub returns : goal.returns
returns g c =
    let edit = FailNet c.args.area c.args.network in
    let there = there_too c.args.database.now c.in_ok-number.number c.in_ok-number.ensures.found.exists in
    let ruled = net_ruled c.args.database.now c.args.area c.args.network c.in_ok-number.number _ c.in_ok-number.ensures.found c.in-Some.ensures.first in
    let fate = net_fate c.args.network in
    let carried = section_carried_out c.args.database.now (Area c.args.area) fate c.in_ok-number.number c.assert_valid.ensures c.in_ok-number.ensures.found
    there (net_safe c.args.network) in
    plan_of c.args.database.now c.args.database.now edit _ _ c.swaps_of_network.result c.swaps_of_network.ensures.swaps c.swaps_of_network.ensures.memory
    (λ v is. planned_here c.args.database.now edit (within (Area c.args.area) fate)
    (section_swaps fate c.in_ok-number.number (Area c.args.area) 0 (slots_in c.args.database.now c.in_ok-number.number)) v.items ruled carried is)
    (no_memory c.args.database.now edit _ ruled)
