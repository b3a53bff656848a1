use Rattle.std.proofs.Common.{[], ◌∷◌, ◌++◌, ◌∙◌, List, map, ap}
use Rattle.area_routes.proofs.AddsLemmas.{map_adds}
use Rattle.lsa_codec.specs.declared.address.AreaId.{AreaId}
use Rattle.audit_places.specs.Places.{PlaceValue}
use Rattle.link_report.proofs.PushedLemmas.{pushed_all, pushed_more, pushed_none}
use Rattle.audit_links.specs.declared.one_way_members.ListedRouter.{ListedRouter}
use Rattle.audit_links.specs.OneWay.{place_of_member}
use Rattle.audit_links.proofs.one_way_members.push_members.Goals as goal

pub loop-listed-init : goal.loop-listed-init
loop-listed-init g c = pushed_none (map_adds (place_of_member c.args.area.now.area)) c.args.places.now.items c.deref-listed-items.result.now

pub loop-listed-preserved : goal.loop-listed-preserved
loop-listed-preserved g c =
    let places = c.loop-listed.places.items in
    let listed = c.listed-item.result in
    pushed_more (map_adds (place_of_member c.args.area.now.area)) c.args.places.now.items c.deref-listed-items.result.now c.loop-listed.listed-index
    listed places _ c.loop-listed-test.true c.listed-item.is c.loop-listed.invariant
    (c.in_ok-push.ensures.items
    ∙ ap (λ (p : PlaceValue). places ++ p ∷ []) (c.place_of_member.ensures ∙ ap (λ (a : AreaId). place_of_member a listed) c.area.ensures))

pub returns : goal.returns
returns g c =
    pushed_all (map_adds (place_of_member c.args.area.now.area)) c.args.places.now.items c.deref-listed-items.result.now c.loop-listed.listed-index
    c.loop-listed.places.items c.loop-listed-test.false c.loop-listed.invariant
    ∙ ap (λ (all : List ListedRouter). c.args.places.now.items ++ map (place_of_member c.args.area.now.area) all)
    (c.deref-listed-items.ensures.value ∙ c.in_ok-members.ensures)
