use Rattle.lsa_codec.specs.declared.address.RouterId.{RouterId}
use Rattle.lsdb.specs.Lists.{AreaHead}
use Rattle.unchanged_tables.proofs.OneLsa.{cost_changed}
use Rattle.unchanged_tables.proofs.cost_changes.cost_change.Goals as goal

pub returns : goal.returns
returns g c =
    let head : AreaHead = record { id = c.area-is_stub.result.0.0; is_stub = c.area-is_stub.result.1 } in
    let any : RouterId = record { 0 = 0 } in
    cost_changed c.args.database.now c.args.slot any c.args.before.now c.in-Some.after.now head c.assert_valid.ensures c.requires
    c.in-Some.ensures c.area-is_stub.ensures c.in-Some-between.change c.in-Some-between.ensures
