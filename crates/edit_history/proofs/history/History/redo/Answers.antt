use Rattle.std.proofs.Common.{◌+◌, arith, add-one}
use Rattle.edit_history.specs.Session.{session_of}
use Rattle.edit_history.proofs.Linked.{on_more, future_less}
use Rattle.edit_history.proofs.history.History.redo.Goals as goal

pub loop-step-preserved : goal.loop-step-preserved
loop-step-preserved g c =
    let kept = c.loop-step.invariant in
    record {
      linked = c.step_on.ensures.linked;
      session = on_more (session_of c.args.database.now c.args.self.now.lists) _ _ c.loop-step._step (c.loop-step._step + 1)
          (add-one c.loop-step._step) kept.session c.step_on.ensures.session;
      left = omega (arith, future_less c.step_on.ensures, kept.left);
    }
