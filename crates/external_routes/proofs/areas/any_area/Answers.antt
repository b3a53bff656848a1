use Rattle.std.proofs.Common.{refl, sym, ap, ◌∙◌, arith}
use Rattle.std.specs.List.{list_any}
use Rattle.std.proofs.lemmas.List.{take_all}
use Rattle.lsdb.specs.Lists.{AreaHead, areas_of}
use Rattle.lsdb.specs.Slots.{lists_of}
use Rattle.external_routes.proofs.AttachedAreas.{area_found, area_passed}
use Rattle.external_routes.proofs.areas.any_area.Goals as goal

pub loop-i-init : goal.loop-i-init
loop-i-init g c = λ passes says. refl

pub returns-then-test : goal.returns-then-test
returns-then-test g c = λ passes says.
    let head : AreaHead = record { id = c.area-is_stub.result.0.0; is_stub = c.area-is_stub.result.1 } in
    sym (area_found passes (areas_of (lists_of c.args.database.now)) c.loop-i.i head c.area-is_stub.ensures
    (sym (says _ _ _ c.test.ensures) ∙ c.if-test.true))

pub loop-i-preserved : goal.loop-i-preserved
loop-i-preserved g c = λ passes says.
    let head : AreaHead = record { id = c.area-is_stub.result.0.0; is_stub = c.area-is_stub.result.1 } in
    area_passed passes (areas_of (lists_of c.args.database.now)) c.loop-i.i head c.area-is_stub.ensures
    (c.loop-i.invariant passes says) (sym (says _ _ _ c.test.ensures) ∙ c.if-test.false)

pub returns : goal.returns
returns g c = λ passes says.
    let areas = areas_of (lists_of c.args.database.now) in
    sym (ap (list_any passes) (sym (take_all c.loop-i.i areas (omega (arith, c.area_count-i-end.ensures, c.loop-i-test.false))))
    ∙ c.loop-i.invariant passes says)
