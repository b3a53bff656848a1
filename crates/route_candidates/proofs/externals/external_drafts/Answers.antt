use Rattle.std.proofs.Common.{◌++◌, ◌∷◌, [], List, None, map, ap, ◌∙◌}
use Rattle.lsa_codec.specs.LsTypes.{external_lsa}
use Rattle.lsdb.specs.Lists.{Lists}
use Rattle.area_routes.proofs.AddsLemmas.{map_adds}
use Rattle.area_candidates.specs.declared.draft.Draft.{Draft}
use Rattle.area_candidates.specs.InOrder.{FoundValue, lsas_in_order}
use Rattle.route_candidates.specs.Outside.{external_draft}
use Rattle.area_candidates.proofs.PushingLemmas.{all_added, one_added}
use Rattle.route_candidates.proofs.externals.external_drafts.Goals as goal

pub loop-found-preserved : goal.loop-found-preserved
loop-found-preserved g c =
    one_added (map_adds (external_draft c.args.is_inside c.args.view.now)) [] c.deref-found-items.result.now
    c.loop-found.found-index c.found-item.result _ _ c.loop-found-test.true c.found-item.is c.loop-found.invariant
    (c.in_ok-push.ensures.items ∙ ap (λ (d : Draft). c.loop-found.drafts.items ++ d ∷ []) c.external_draft.ensures)

pub returns : goal.returns
returns g c =
    let drafts = external_draft c.args.is_inside c.args.view.now in
    all_added (map_adds drafts) [] c.deref-found-items.result.now c.loop-found.found-index c.loop-found.drafts.items c.loop-found-test.false
    c.loop-found.invariant
    ∙ ap (λ (found : List FoundValue). map drafts found)
    (c.deref-found-items.ensures.value ∙ c.in_ok-lsas.ensures.found
    ∙ ap (λ (db : Lists). lsas_in_order db None external_lsa c.args.net) c.database.ensures)
