use Rattle.std.proofs.Common.{rules}
use Rattle.forgotten_instances.proofs.LeftOver.{one_more}
use Rattle.forgotten_instances.proofs.Walked.{none_kept}
use Rattle.forgotten_instances.proofs.remembering.forgotten_among.Goals as goal

pub loop-observation-init : goal.loop-observation-init
loop-observation-init g c = (none_kept, search rules)

pub loop-observation-preserved : goal.loop-observation-preserved
loop-observation-preserved g c =
    let k = one_more c.args.sorted.now c.requires c.loop-observation.observation-index c.observation-item.result c.loop-observation.past
    c.loop-observation.forgotten.items c.loop-observation-test.true c.observation-item.is c.loop-observation.invariant.0 c.loop-observation.invariant.1 in
    rw (c.in_ok-push.ensures.items, c.is_forgotten_by.ensures, c.past_with.ensures) k
