use Rattle.std.proofs.Common.{◌≡◌, true, false, sym, ap, ◌∙◌, subst, rules}
use Rattle.std.proofs.lemmas.Result.{err_from_is_err_and}
use Rattle.edit_script.specs.declared.edit.Edit.TheVariants.{AddExternal}
use Rattle.edit_history.specs.declared.fault.EditFault.{EditFault}
use Rattle.edit_history.specs.Fault.{fault_of}
use Rattle.edit_history.specs.Applied.{IsRefused}
use Rattle.edit_history.proofs.RulesCarriedOut.{plan_of}
use Rattle.edit_history.proofs.AdditionRules.{AreWide, external_no_router, external_no_room, external_memory, external_planned}
use Rattle.edit_history.proofs.prefixes.plan_add_external.Goals as goal

pub returns-then-not-has_router-clause-plan : goal.returns-then-not-has_router-clause-plan
returns-then-not-has_router-clause-plan g c =
    let none : c.has_router.result ≡ false = search rules in
    external_no_router c.args.database.now c.args.router c.args.prefix c.args.metric_type c.args.metric c.args.forward c.args.tag
    (sym c.has_router.ensures ∙ none)

pub returns-in_err-check_room-clause-plan : goal.returns-in_err-check_room-clause-plan
returns-in_err-check_room-clause-plan g c =
    let gave = err_from_is_err_and c.from_residual.result c.from_residual.ensures.1 in
    rw (gave.1, gave.2) (external_no_room c.args.database.now c.args.router c.args.prefix c.args.metric_type c.args.metric
    c.args.forward c.args.tag c.new_key-key.result c.in_err-check_room.field-0.0
    (let there : c.has_router.result ≡ true = search rules in sym c.has_router.ensures ∙ there)
    (record { is_net = c.new_key-key.ensures.prefix; addr = c.new_key-key.ensures.addr; wide = c.new_key-key.ensures.router })
    c.new_key-key.ensures.key c.in_err-check_room.ensures.refused)

pub returns-in_err-lsa-clause-plan : goal.returns-in_err-lsa-clause-plan
returns-in_err-lsa-clause-plan g c =
    let gave = err_from_is_err_and c.from_residual-in_err-lsa.result c.from_residual-in_err-lsa.ensures.1 in
    rw (gave.1, gave.2) (subst (λ (f : EditFault). IsRefused c.args.database.now
    (AddExternal c.args.router c.args.prefix c.args.metric_type c.args.metric c.args.forward c.args.tag) f)
    (sym (ap fault_of c.in_err-lsa.ensures.fault))
    (external_memory c.args.database.now c.args.router c.args.prefix c.args.metric_type c.args.metric c.args.forward
    c.args.tag c.new_key-key.result
    (let there : c.has_router.result ≡ true = search rules in sym c.has_router.ensures ∙ there)
    (record { is_net = c.new_key-key.ensures.prefix; addr = c.new_key-key.ensures.addr; wide = c.new_key-key.ensures.router })
    c.new_key-key.ensures.key c.in_ok-check_room.ensures.room))

pub returns-clause-plan : goal.returns-clause-plan
returns-clause-plan g c =
    let there : c.has_router.result ≡ true = search rules in
    let has = sym c.has_router.ensures ∙ there in
    let wide : AreWide c.args.router c.args.prefix =
    record { is_net = c.new_key-key.ensures.prefix; addr = c.new_key-key.ensures.addr; wide = c.new_key-key.ensures.router } in
    plan_of c.args.database.now c.plan_new.new.database
    (AddExternal c.args.router c.args.prefix c.args.metric_type c.args.metric c.args.forward c.args.tag) _ _
    c.plan_new.result c.plan_new.ensures.opened c.plan_new.ensures.memory
    (λ v opens. external_planned c.args.database.now c.plan_new.new.database c.args.router
    c.args.prefix c.args.metric_type c.args.metric c.args.forward c.args.tag c.new_key-key.result
    c.is_type2.result c.value.result c.in_ok-lsa.lsa v.items c.assert_valid.ensures has wide
    c.new_key-key.ensures.key c.in_ok-check_room.ensures.room c.is_type2.ensures c.value.ensures.value c.in_ok-lsa.ensures.made opens)
    (external_memory c.args.database.now c.args.router c.args.prefix c.args.metric_type c.args.metric c.args.forward
    c.args.tag c.new_key-key.result has wide c.new_key-key.ensures.key c.in_ok-check_room.ensures.room)
