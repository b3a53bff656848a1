use Rattle.std.proofs.Common.{◌+◌, ◌<◌, ◌≤◌, length, sym, ap, ◌∙◌, subst, arith}
use Rattle.std.proofs.lemmas.Result.{err_from_is_err_and}
use Rattle.edit_script.specs.declared.edit.Edit.TheVariants.{AddStub}
use Rattle.edit_history.specs.declared.fault.EditFault.{EditFault}
use Rattle.edit_history.specs.Applied.{IsRefused}
use Rattle.edit_history.proofs.StubEdits.{stub_no_router, stub_too_long, stub_full, stub_memory, stub_fault, stub_planned}
use Rattle.edit_history.proofs.links.plan_add_stub.Goals as goal

pub returns-in_err-slot : goal.returns-in_err-slot
returns-in_err-slot g c =
    let gave = err_from_is_err_and c.from_residual.result c.from_residual.ensures.1 in
    rw (gave.1, gave.2)
    (stub_no_router c.args.database.now c.args.area c.args.router c.args.prefix c.args.metric c.in_err-slot.field-0.0 c.in_err-slot.ensures.refused)

pub returns-then-bytes-from-gt-LONGEST_LSA : goal.returns-then-bytes-from-gt-LONGEST_LSA
returns-then-bytes-from-gt-LONGEST_LSA g c =
    stub_too_long c.args.database.now c.args.area c.args.router c.args.prefix c.args.metric c.in_ok-slot.slot c.in_ok-slot.lsa.now
    c.in_ok-slot.ensures.found
    (let long : 65535 < length c.in_ok-slot.lsa.now + 12 = omega (arith, ap length c.bytes.ensures.bytes, c.if-bytes-from-gt-LONGEST_LSA.true) in long)

pub returns-then-is_dump_full : goal.returns-then-is_dump_full
returns-then-is_dump_full g c =
    stub_full c.args.database.now c.args.area c.args.router c.args.prefix c.args.metric c.in_ok-slot.slot c.in_ok-slot.lsa.now
    c.in_ok-slot.ensures.found
    (let short : length c.in_ok-slot.lsa.now + 12 ≤ 65535 = omega (arith, ap length c.bytes.ensures.bytes, c.if-bytes-from-gt-LONGEST_LSA.false) in short)
    (sym c.is_dump_full.ensures ∙ c.if-is_dump_full.true)

pub returns-in_err-new : goal.returns-in_err-new
returns-in_err-new g c =
    let gave = err_from_is_err_and c.from_residual-in_err-new.result c.from_residual-in_err-new.ensures.1 in
    let fault = stub_fault c.args.prefix c.args.metric c.in_ok-slot.lsa.now c.in_err-new.field-0.0
    (let short : length c.in_ok-slot.lsa.now + 12 ≤ 65535 = omega
    (arith, ap length c.bytes.ensures.bytes, c.if-bytes-from-gt-LONGEST_LSA.false) in short)
    c.in_err-new.ensures.fault in
    rw (gave.1, gave.2) (subst (λ (f : EditFault). IsRefused c.args.database.now (AddStub c.args.area c.args.router c.args.prefix c.args.metric) f)
    (sym fault) (stub_memory c.args.database.now c.args.area c.args.router c.args.prefix c.args.metric c.in_ok-slot.slot
    c.in_ok-slot.lsa.now c.in_ok-slot.ensures.found
    (let short : length c.in_ok-slot.lsa.now + 12 ≤ 65535 = omega (arith, ap length c.bytes.ensures.bytes, c.if-bytes-from-gt-LONGEST_LSA.false) in short)
    (sym c.is_dump_full.ensures ∙ c.if-is_dump_full.false)))

pub returns-in_err-one_swap : goal.returns-in_err-one_swap
returns-in_err-one_swap g c =
    let gave = err_from_is_err_and c.from_residual-in_err-one_swap.result c.from_residual-in_err-one_swap.ensures.1 in
    rw (gave.1, gave.2) (stub_memory c.args.database.now c.args.area c.args.router c.args.prefix c.args.metric c.in_ok-slot.slot
    c.in_ok-slot.lsa.now c.in_ok-slot.ensures.found
    (let short : length c.in_ok-slot.lsa.now + 12 ≤ 65535 = omega (arith, ap length c.bytes.ensures.bytes, c.if-bytes-from-gt-LONGEST_LSA.false) in short)
    (sym c.is_dump_full.ensures ∙ c.if-is_dump_full.false))

pub returns : goal.returns
returns g c =
    stub_planned c.args.database.now c.args.area c.args.router c.args.prefix c.args.metric c.in_ok-slot.slot c.in_ok-slot.lsa.now
    c.in_ok-new.new c.new-swap.result c.in_ok-one_swap.field-0.items c.assert_valid.ensures c.in_ok-slot.ensures.found
    (let short : length c.in_ok-slot.lsa.now + 12 ≤ 65535 = omega (arith, ap length c.bytes.ensures.bytes, c.if-bytes-from-gt-LONGEST_LSA.false) in short)
    (sym c.is_dump_full.ensures ∙ c.if-is_dump_full.false) c.in_ok-new.ensures.made c.in_ok-new.ensures.keeps c.new-swap.ensures c.in_ok-one_swap.ensures
