use Rattle.std.proofs.Common.{[], ◌∷◌, ◌++◌, ◌∙◌, map, ap}
use Rattle.lsa_codec.specs.declared.address.AreaId.{AreaId}
use Rattle.lsdb.specs.Slots.{lists_of}
use Rattle.area_routes.proofs.AddsLemmas.{map_adds}
use Rattle.link_report.proofs.PushedLemmas.{made_all, made_at}
use Rattle.audit_areas.specs.Areas.{AreaValue, audited_area}
use Rattle.audit_areas.proofs.area.audited_areas.Goals as goal

abbrev no_area : AreaId
no_area = record { 0 = 0 }

pub loop-area-preserved : goal.loop-area-preserved
loop-area-preserved g c =
    let is = c.in_ok-push.ensures.items ∙ ap (λ (a : AreaValue). c.loop-area.areas.items ++ a ∷ []) c.in_ok-of.ensures in
    made_at (map_adds (audited_area (lists_of c.args.database.now))) c.deref-area-items.result.now c.loop-area.area-index no_area
    c.loop-area.areas.items _ c.loop-area-test.true c.loop-area.invariant is

pub returns : goal.returns
returns g c =
    made_all (map_adds (audited_area (lists_of c.args.database.now))) c.deref-area-items.result.now c.loop-area.area-index
    c.loop-area.areas.items c.loop-area-test.false c.loop-area.invariant
    ∙ ap (map (audited_area (lists_of c.args.database.now))) (c.deref-area-items.ensures.value ∙ c.in_ok-ids.ensures)
