use Rattle.std.proofs.lemmas.Result.{IfOk-weaker}
use Rattle.loop_report.specs.Loops.{AreJointLoops, AreLoopsOf}
use Rattle.loop_report.proofs.loops.loops_at.Goals as goal

pub returns : goal.returns
returns g c =
    IfOk-weaker c.joint_loops_at.result (λ found. AreJointLoops c.args.net c.args.graph.now c.args.graph.now found.items)
    (λ found. AreLoopsOf c.args.net c.args.graph.now found.items)
    (λ found (loops, are, is). (loops, (c.equal_graphs_have_their_loops.ensures c.args.graph.now loops).0 are, is)) c.joint_loops_at.ensures
