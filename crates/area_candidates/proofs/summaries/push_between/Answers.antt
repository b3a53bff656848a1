use Rattle.std.proofs.Common.{◌≡◌, ◌++◌, ◌∷◌, [], List, Bool, Some, map, ap, sym, subst, ◌∙◌}
use Rattle.std.specs.List.{All}
use Rattle.lsa_codec.specs.Fields.{kind_of}
use Rattle.lsa_codec.specs.LsTypes.{summary_lsa}
use Rattle.lsa_codec.specs.declared.address.AreaId.{AreaId}
use Rattle.lsdb.specs.Lists.{Lists}
use Rattle.area_routes.proofs.AddsLemmas.{map_adds}
use Rattle.area_candidates.specs.declared.draft.Draft.{Draft}
use Rattle.area_candidates.specs.Between.{summary_draft}
use Rattle.area_candidates.specs.InOrder.{FoundValue, lsas_in_order}
use Rattle.area_candidates.proofs.PushingLemmas.{all_added, none_added, one_added}
use Rattle.area_candidates.proofs.summaries.push_between.Goals as goal

pub loop-found-init : goal.loop-found-init
loop-found-init g c =
    none_added (map_adds (summary_draft c.args.is_within c.is_examined-is_examined.result c.args.view.now)) c.args.drafts.now.items c.deref-found-items.result.now

pub summary_draft-requires : goal.summary_draft-requires
summary_draft-requires g c =
    let found = c.found-item.result in
    ap (λ (f : FoundValue). kind_of f.lsa) c.found-item.is
    ∙ subst (λ (l : List FoundValue). All (λ (f : FoundValue). kind_of f.lsa ≡ summary_lsa) l) (sym c.deref-found-items.ensures.value)
    c.in_ok-lsas.ensures.kinds c.loop-found.found-index found c.loop-found-test.true

pub loop-found-preserved : goal.loop-found-preserved
loop-found-preserved g c =
    one_added (map_adds (summary_draft c.args.is_within c.is_examined-is_examined.result c.args.view.now)) c.args.drafts.now.items c.deref-found-items.result.now
    c.loop-found.found-index c.found-item.result _ _ c.loop-found-test.true c.found-item.is c.loop-found.invariant
    (c.in_ok-push.ensures.items ∙ ap (λ (d : Draft). c.loop-found.drafts.items ++ d ∷ []) c.summary_draft.ensures)

pub returns : goal.returns
returns g c =
    let view = c.args.view.now in
    let net = c.args.net in
    all_added (map_adds (summary_draft c.args.is_within c.is_examined-is_examined.result view)) c.args.drafts.now.items c.deref-found-items.result.now
    c.loop-found.found-index c.loop-found.drafts.items c.loop-found-test.false c.loop-found.invariant
    ∙ ap (λ (found : List FoundValue). c.args.drafts.now.items ++ map (summary_draft c.args.is_within c.is_examined-is_examined.result view) found)
    (c.deref-found-items.ensures.value ∙ c.in_ok-lsas.ensures.found
    ∙ ap (λ (db : Lists). lsas_in_order db (Some c.area.result) summary_lsa net) c.database.ensures
    ∙ ap (λ (area : AreaId). lsas_in_order view.db (Some area) summary_lsa net) c.area.ensures)
    ∙ ap (λ (b : Bool). c.args.drafts.now.items ++ map (summary_draft c.args.is_within b view) (lsas_in_order view.db (Some view.area) summary_lsa net))
    c.is_examined-is_examined.ensures
