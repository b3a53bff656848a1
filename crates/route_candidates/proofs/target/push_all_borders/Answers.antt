use Rattle.area_routes.proofs.AddsLemmas.{flat_map_adds}
use Rattle.route_candidates.specs.Targets.{border_targets_in}
use Rattle.area_candidates.proofs.PushingLemmas.{all_added, none_added, one_added}
use Rattle.route_candidates.proofs.target.push_all_borders.Goals as goal

pub loop-view-init : goal.loop-view-init
loop-view-init g c = none_added (flat_map_adds (border_targets_in c.args.entry.now)) c.args.targets.now.items c.args.views.now

pub loop-view-preserved : goal.loop-view-preserved
loop-view-preserved g c =
    one_added (flat_map_adds (border_targets_in c.args.entry.now)) c.args.targets.now.items c.args.views.now c.loop-view.view-index
    c.view-item.result _ _ c.loop-view-test.true c.view-item.is c.loop-view.invariant c.in_ok-push_border_targets.ensures

pub returns : goal.returns
returns g c =
    all_added (flat_map_adds (border_targets_in c.args.entry.now)) c.args.targets.now.items c.args.views.now c.loop-view.view-index
    c.loop-view.targets.items c.loop-view-test.false c.loop-view.invariant
