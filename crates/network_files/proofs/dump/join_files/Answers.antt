use Rattle.std.proofs.Common.{◌∙◌}
use Rattle.std.proofs.lemmas.Result.{err_from_is_err_and}
use Rattle.network_files.proofs.Joins.{is_dump, is_fault, is_joined}
use Rattle.network_files.proofs.dump.join_files.Goals as goal

pub returns-in_err-database-clause-fault : goal.returns-in_err-database-clause-fault
returns-in_err-database-clause-fault g c =
    let areas = c.deref.ensures.value ∙ c.in_ok-areas.ensures in
    let gave = err_from_is_err_and c.from_residual-in_err-database.result c.from_residual-in_err-database.ensures.1 in
    rw (gave.1, gave.2) (is_fault c.args.flushed c.args.files.now _ _ c.in_ok-observations.ensures areas _ c.in_err-database.ensures.fault)

pub returns-clause-dump : goal.returns-clause-dump
returns-clause-dump g c =
    let areas = c.deref.ensures.value ∙ c.in_ok-areas.ensures in
    let made = c.in_ok-database.ensures in
    is_dump c.args.flushed c.args.files.now _ _ c.in_ok-observations.ensures areas _ _ made.database c.in_ok-dump.ensures made.joined

pub returns-clause-database : goal.returns-clause-database
returns-clause-database g c =
    let areas = c.deref.ensures.value ∙ c.in_ok-areas.ensures in
    let made = c.in_ok-database.ensures in
    is_joined c.args.flushed c.args.files.now _ _ c.in_ok-observations.ensures areas _ made.database made.joined
