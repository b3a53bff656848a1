use Rattle.lsdb.specs.Slots.{lists_of}
use Rattle.branches.proofs.AllTables.{count_found}
use Rattle.branches.proofs.commands.routers_with_table.Goals as goal

pub returns-clause-tables : goal.returns-clause-tables
returns-clause-tables g c =
    let db = lists_of c.args.database.now in
    count_found db c.routers.result (λ x there. (c.routers_are_attached.ensures db x c.assert_valid.ensures).0 there) c.routers.ensures
