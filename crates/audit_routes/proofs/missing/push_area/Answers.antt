use Rattle.lsdb.specs.Lists.{AreaHead}
use Rattle.lsdb.specs.Slots.{lists_of}
use Rattle.area_routes.proofs.AddsLemmas.{flat_map_adds}
use Rattle.audit_routes.specs.Missing.{missing_in}
use Rattle.audit_routes.proofs.Loops.{begun, ended, one_more}
use Rattle.audit_routes.proofs.missing.push_area.Goals as goal

pub loop-ways-init : goal.loop-ways-init
loop-ways-init g c =
    let head : AreaHead = record { id = c.args.area.0.0; is_stub = c.args.area.1 } in
    begun (flat_map_adds (missing_in (lists_of c.args.database.now) head)) c.args.places.now.items c.args.routers.now

pub loop-ways-preserved : goal.loop-ways-preserved
loop-ways-preserved g c =
    let head : AreaHead = record { id = c.args.area.0.0; is_stub = c.args.area.1 } in
    one_more (flat_map_adds (missing_in (lists_of c.args.database.now) head)) c.args.places.now.items c.args.routers.now c.loop-ways.ways-index
    c.ways-item.result c.loop-ways.places.items _ c.loop-ways-test.true c.ways-item.is c.loop-ways.invariant c.in_ok-push_missing.ensures

pub returns : goal.returns
returns g c =
    let head : AreaHead = record { id = c.args.area.0.0; is_stub = c.args.area.1 } in
    ended (flat_map_adds (missing_in (lists_of c.args.database.now) head)) c.args.places.now.items c.args.routers.now c.loop-ways.ways-index
    c.loop-ways.places.items c.loop-ways-test.false c.loop-ways.invariant
