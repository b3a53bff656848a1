use Rattle.std.proofs.Common.{◌≡◌, map}
use Rattle.std.proofs.lemmas.Result.{IfOk-weaker}
use Rattle.loop_report.specs.Loops.{AreJointLoops, at_net}
use Rattle.loop_report.proofs.loops.joint_loops_at.Goals as goal

pub returns : goal.returns
returns g c =
    IfOk-weaker c.with_net.result (λ found. found.items ≡ map (at_net c.args.net) c.in_ok-loops.loops.items)
    (λ found. AreJointLoops c.args.net c.args.was.now c.args.is.now found.items) (λ found is. (c.in_ok-loops.loops.items, c.in_ok-loops.ensures, is)) c.with_net.ensures
