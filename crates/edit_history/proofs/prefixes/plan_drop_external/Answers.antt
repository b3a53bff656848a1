use Rattle.std.proofs.lemmas.Result.{err_from_is_err_and}
use Rattle.edit_history.proofs.PrefixEdits.{external_none, external_memory, external_planned}
use Rattle.edit_history.proofs.prefixes.plan_drop_external.Goals as goal

pub returns-in_default : goal.returns-in_default
returns-in_default g c = external_none c.args.database.now c.args.router c.args.prefix c.in_default.ensures

pub returns-in_err-one_swap : goal.returns-in_err-one_swap
returns-in_err-one_swap g c =
    let gave = err_from_is_err_and c.from_residual.result c.from_residual.ensures.1 in
    rw (gave.1, gave.2) (external_memory c.args.database.now c.args.router c.args.prefix c.in-Some.slot c.in-Some.field-0-1.now c.in-Some.ensures)

pub returns : goal.returns
returns g c =
    external_planned c.args.database.now c.args.router c.args.prefix c.in-Some.slot c.in-Some.field-0-1.now c.new-swap.result
    c.in_ok-one_swap.field-0.items c.assert_valid.ensures c.in-Some.ensures c.new-swap.ensures c.in_ok-one_swap.ensures
