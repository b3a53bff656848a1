use Rattle.std.proofs.Common.{sym, ap, subst}
use Rattle.std.proofs.lemmas.Result.{err_from_is_err_and}
use Rattle.edit_script.specs.declared.edit.Edit.TheVariants.{AddSummary}
use Rattle.edit_history.specs.declared.fault.EditFault.{EditFault}
use Rattle.edit_history.specs.Fault.{fault_of}
use Rattle.edit_history.specs.Applied.{IsRefused}
use Rattle.lsdb.specs.Slots.{lists_of}
use Rattle.edit_history.proofs.NamedLsas.{no_area_refused}
use Rattle.edit_history.proofs.Searches.{there_too}
use Rattle.edit_history.proofs.RulesCarriedOut.{plan_of}
use Rattle.edit_history.proofs.AdditionRules.{AreWide, summary_row, add_no_router, add_no_room, add_memory, add_planned}
use Rattle.edit_history.proofs.prefixes.plan_add_summary.Goals as goal

pub returns-in_err-number-clause-plan : goal.returns-in_err-number-clause-plan
returns-in_err-number-clause-plan g c =
    let gave = err_from_is_err_and c.from_residual.result c.from_residual.ensures.1 in
    rw (gave.1, gave.2) (no_area_refused c.args.database.now (AddSummary c.args.area c.args.router c.args.prefix c.args.metric) c.args.area _ _
    (summary_row (lists_of c.args.database.now) c.args.area c.args.router c.args.prefix c.args.metric) c.in_err-number.ensures.refused c.in_err-number.ensures.absent)

pub returns-in_err-router_lsa_in-clause-plan : goal.returns-in_err-router_lsa_in-clause-plan
returns-in_err-router_lsa_in-clause-plan g c =
    let gave = err_from_is_err_and c.from_residual-in_err-router_lsa_in.result c.from_residual-in_err-router_lsa_in.ensures.1 in
    rw (gave.1, gave.2) (subst (λ (f : EditFault). IsRefused c.args.database.now (AddSummary c.args.area c.args.router c.args.prefix c.args.metric) f)
    (sym c.in_err-router_lsa_in.ensures.refused)
    (add_no_router c.args.database.now c.args.area c.args.router c.args.prefix c.args.metric c.in_ok-number.number
    c.in_ok-number.ensures.found c.in_err-router_lsa_in.ensures.absent))

pub returns-in_err-check_room-clause-plan : goal.returns-in_err-check_room-clause-plan
returns-in_err-check_room-clause-plan g c =
    let gave = err_from_is_err_and c.from_residual-in_err-check_room.result c.from_residual-in_err-check_room.ensures.1 in
    rw (gave.1, gave.2) (add_no_room c.args.database.now c.args.area c.args.router c.args.prefix c.args.metric
    c.in_ok-number.number c.in_ok-router_lsa_in.field-0.0 c.in_ok-router_lsa_in.field-0.1.now c.new_key-key.result
    c.in_err-check_room.field-0.0 c.in_ok-number.ensures.found c.in_ok-router_lsa_in.ensures.found
    (record { is_net = c.new_key-key.ensures.prefix; addr = c.new_key-key.ensures.addr; wide = c.new_key-key.ensures.router })
    c.new_key-key.ensures.key c.in_err-check_room.ensures.refused)

pub options_in-options-requires : goal.options_in-options-requires
options_in-options-requires g c = there_too c.args.database.now c.in_ok-number.number c.in_ok-number.ensures.found.exists

pub returns-in_err-lsa-clause-plan : goal.returns-in_err-lsa-clause-plan
returns-in_err-lsa-clause-plan g c =
    let gave = err_from_is_err_and c.from_residual-in_err-lsa.result c.from_residual-in_err-lsa.ensures.1 in
    rw (gave.1, gave.2) (subst (λ (f : EditFault). IsRefused c.args.database.now (AddSummary c.args.area c.args.router c.args.prefix c.args.metric) f)
    (sym (ap fault_of c.in_err-lsa.ensures.fault))
    (add_memory c.args.database.now c.args.area c.args.router c.args.prefix c.args.metric c.in_ok-number.number
    c.in_ok-router_lsa_in.field-0.0 c.in_ok-router_lsa_in.field-0.1.now c.new_key-key.result c.in_ok-number.ensures.found
    c.in_ok-router_lsa_in.ensures.found
    (record { is_net = c.new_key-key.ensures.prefix; addr = c.new_key-key.ensures.addr; wide = c.new_key-key.ensures.router })
    c.new_key-key.ensures.key c.in_ok-check_room.ensures.room))

pub returns-clause-plan : goal.returns-clause-plan
returns-clause-plan g c =
    let wide : AreWide c.args.router c.args.prefix =
    record { is_net = c.new_key-key.ensures.prefix; addr = c.new_key-key.ensures.addr; wide = c.new_key-key.ensures.router } in
    plan_of c.args.database.now c.plan_new.new.database (AddSummary c.args.area c.args.router c.args.prefix c.args.metric) _ _
    c.plan_new.result c.plan_new.ensures.opened c.plan_new.ensures.memory
    (λ v opens. add_planned c.args.database.now c.plan_new.new.database c.args.area
    c.args.router c.args.prefix c.args.metric c.in_ok-number.number c.in_ok-router_lsa_in.field-0.0
    c.in_ok-router_lsa_in.field-0.1.now c.new_key-key.result c.options_in-options.result c.value.result c.in_ok-lsa.lsa
    v.items c.assert_valid.ensures c.in_ok-number.ensures.found c.in_ok-router_lsa_in.ensures.found
    wide c.new_key-key.ensures.key c.in_ok-check_room.ensures.room
    c.options_in-options.ensures c.value.ensures.value c.in_ok-lsa.ensures.made opens)
    (add_memory c.args.database.now c.args.area c.args.router c.args.prefix c.args.metric c.in_ok-number.number
    c.in_ok-router_lsa_in.field-0.0 c.in_ok-router_lsa_in.field-0.1.now c.new_key-key.result c.in_ok-number.ensures.found
    c.in_ok-router_lsa_in.ensures.found wide c.new_key-key.ensures.key c.in_ok-check_room.ensures.room)
