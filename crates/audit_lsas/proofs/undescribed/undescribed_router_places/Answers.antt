use Rattle.std.proofs.Common.{◌++◌, ◌∙◌, List, ap}
use Rattle.std.specs.List.{flat_map}
use Rattle.lsdb.specs.Slots.{lists_of}
use Rattle.lsa_codec.specs.declared.address.AreaId.{AreaId}
use Rattle.area_routes.proofs.AddsLemmas.{flat_map_adds}
use Rattle.audit_places.specs.Places.{PlaceValue}
use Rattle.link_report.proofs.PushedLemmas.{made_all, made_at}
use Rattle.audit_lsas.specs.Undescribed.{missing_places}
use Rattle.audit_lsas.proofs.undescribed.undescribed_router_places.Goals as goal

abbrev no_area : AreaId
no_area = record { 0 = 0 }

pub loop-area-preserved : goal.loop-area-preserved
loop-area-preserved g c =
    let places = missing_places (lists_of c.args.loaded.now) (lists_of c.args.now.now) in
    made_at (flat_map_adds places) c.deref-area-items.result.now c.loop-area.area-index no_area c.loop-area.places.items _
    c.loop-area-test.true c.loop-area.invariant
    (c.in_ok-append.ensures.items ∙ ap (λ (l : List PlaceValue). c.loop-area.places.items ++ l) c.in_ok-more.ensures)

pub returns : goal.returns
returns g c =
    let places = missing_places (lists_of c.args.loaded.now) (lists_of c.args.now.now) in
    made_all (flat_map_adds places) c.deref-area-items.result.now c.loop-area.area-index c.loop-area.places.items
    c.loop-area-test.false c.loop-area.invariant
    ∙ ap (λ (areas : List AreaId). flat_map places areas) (c.deref-area-items.ensures.value ∙ c.in_ok-areas.ensures)
