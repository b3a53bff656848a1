use Rattle.std.proofs.Common.{◌++◌, List, Some, ap, ◌∙◌}
use Rattle.std.specs.List.{flat_map}
use Rattle.lsa_codec.specs.LsTypes.{router_lsa}
use Rattle.lsa_codec.specs.declared.address.AreaId.{AreaId}
use Rattle.lsdb.specs.Lists.{Lists}
use Rattle.area_routes.proofs.AddsLemmas.{flat_map_adds}
use Rattle.area_candidates.specs.InOrder.{FoundValue, lsas_in_order}
use Rattle.area_candidates.specs.Within.{stub_drafts_of}
use Rattle.area_candidates.proofs.PushingLemmas.{all_added, none_added, one_added}
use Rattle.area_candidates.proofs.stubs.push_stubs.Goals as goal

pub loop-found-init : goal.loop-found-init
loop-found-init g c = none_added (flat_map_adds (stub_drafts_of c.args.view.now c.args.net)) c.args.drafts.now.items c.deref-found-items.result.now

pub loop-found-preserved : goal.loop-found-preserved
loop-found-preserved g c =
    one_added (flat_map_adds (stub_drafts_of c.args.view.now c.args.net)) c.args.drafts.now.items c.deref-found-items.result.now
    c.loop-found.found-index c.found-item.result _ _ c.loop-found-test.true c.found-item.is c.loop-found.invariant c.in_ok-push_stub_drafts.ensures

pub returns : goal.returns
returns g c =
    let drafts = stub_drafts_of c.args.view.now c.args.net in
    let net = c.args.net in
    all_added (flat_map_adds drafts) c.args.drafts.now.items c.deref-found-items.result.now c.loop-found.found-index c.loop-found.drafts.items
    c.loop-found-test.false c.loop-found.invariant
    ∙ ap (λ (found : List FoundValue). c.args.drafts.now.items ++ flat_map drafts found)
    (c.deref-found-items.ensures.value ∙ c.in_ok-lsas.ensures.found
    ∙ ap (λ (db : Lists). lsas_in_order db (Some c.area.result) router_lsa net) c.database.ensures
    ∙ ap (λ (area : AreaId). lsas_in_order c.args.view.now.db (Some area) router_lsa net) c.area.ensures)
