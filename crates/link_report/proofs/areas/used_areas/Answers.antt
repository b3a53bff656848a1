use Rattle.std.proofs.Common.{[], ◌∷◌, ◌++◌, ◌∙◌, List, map, ap}
use Rattle.lsa_codec.specs.declared.address.AreaId.{AreaId}
use Rattle.lsdb.specs.Slots.{lists_of}
use Rattle.area_routes.proofs.AddsLemmas.{map_adds}
use Rattle.link_report.specs.Areas.{UsedAreaValue, used_area}
use Rattle.link_report.proofs.PushedLemmas.{made_all, made_at}
use Rattle.link_report.proofs.areas.used_areas.Goals as goal

abbrev no_area : AreaId
no_area = record { 0 = 0 }

pub loop-area-preserved : goal.loop-area-preserved
loop-area-preserved g c =
    let db = lists_of c.args.database.now in
    made_at (map_adds (used_area db)) c.deref-area-items.result.now c.loop-area.area-index no_area c.loop-area.areas.items _ c.loop-area-test.true
    c.loop-area.invariant
    (c.in_ok-push.ensures.items ∙ ap (λ (a : UsedAreaValue). c.loop-area.areas.items ++ a ∷ []) c.in_ok-of.ensures)

pub returns : goal.returns
returns g c =
    let db = lists_of c.args.database.now in
    made_all (map_adds (used_area db)) c.deref-area-items.result.now c.loop-area.area-index c.loop-area.areas.items c.loop-area-test.false
    c.loop-area.invariant
    ∙ ap (λ (ids : List AreaId). map (used_area db) ids) (c.deref-area-items.ensures.value ∙ c.in_ok-ids.ensures)
