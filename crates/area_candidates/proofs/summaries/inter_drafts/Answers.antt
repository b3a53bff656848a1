use Rattle.std.proofs.Common.{[]}
use Rattle.area_routes.proofs.AddsLemmas.{flat_map_adds}
use Rattle.area_candidates.specs.Between.{drafts_between}
use Rattle.area_candidates.proofs.PushingLemmas.{all_added, one_added}
use Rattle.area_candidates.proofs.summaries.inter_drafts.Goals as goal

pub loop-view-preserved : goal.loop-view-preserved
loop-view-preserved g c =
    one_added (flat_map_adds (drafts_between c.args.is_within c.args.views.now c.args.net)) [] c.args.views.now c.loop-view.view-index
    c.view-item.result _ _ c.loop-view-test.true c.view-item.is c.loop-view.invariant c.in_ok-push_between.ensures

pub returns : goal.returns
returns g c =
    all_added (flat_map_adds (drafts_between c.args.is_within c.args.views.now c.args.net)) [] c.args.views.now c.loop-view.view-index
    c.loop-view.drafts.items c.loop-view-test.false c.loop-view.invariant
