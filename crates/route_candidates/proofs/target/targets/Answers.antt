use Rattle.std.proofs.Common.{[], List, ◌++◌, ap, ◌∙◌}
use Rattle.area_routes.proofs.AddsLemmas.{flat_map_adds}
use Rattle.route_candidates.specs.Targets.{targets_of_one}
use Rattle.route_candidates.specs.declared.target.Target.{Target}
use Rattle.area_candidates.proofs.PushingLemmas.{all_added, one_added}
use Rattle.route_candidates.proofs.target.targets.Goals as goal

pub loop-candidate-preserved : goal.loop-candidate-preserved
loop-candidate-preserved g c =
    one_added (flat_map_adds (targets_of_one c.args.view.now)) [] c.args.candidates.now c.loop-candidate.candidate-index
    c.candidate-item.result _ _ c.loop-candidate-test.true c.candidate-item.is c.loop-candidate.invariant
    (c.in_ok-append.ensures.items ∙ ap (λ (ts : List Target). c.loop-candidate.targets.items ++ ts) c.in_ok-targets_of_one.ensures)

pub returns : goal.returns
returns g c =
    all_added (flat_map_adds (targets_of_one c.args.view.now)) [] c.args.candidates.now c.loop-candidate.candidate-index
    c.loop-candidate.targets.items c.loop-candidate-test.false c.loop-candidate.invariant
