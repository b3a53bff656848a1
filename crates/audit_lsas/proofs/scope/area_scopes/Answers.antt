use Rattle.lsdb.specs.Lists.{AreaHead}
use Rattle.lsdb.specs.Slots.{lists_of}
use Rattle.audit_lsas.proofs.Scopes.{scope_more, scopes_all}
use Rattle.audit_lsas.proofs.scope.area_scopes.Goals as goal

pub loop-i-preserved : goal.loop-i-preserved
loop-i-preserved g c =
    let head : AreaHead = record { id = c.area-is_stub.result.0.0; is_stub = c.area-is_stub.result.1 } in
    scope_more (lists_of c.args.database.now) c.loop-i.i head _ _ c.area-is_stub.ensures c.loop-i.invariant c.in_ok-push.ensures.items

pub returns : goal.returns
returns g c =
    scopes_all (lists_of c.args.database.now) c.loop-i.i _ _ c.loop-i-test.false c.area_count-i-end.ensures c.loop-i.invariant
