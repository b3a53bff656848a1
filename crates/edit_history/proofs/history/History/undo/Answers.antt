use Rattle.std.proofs.Common.{◌+◌, arith, add-one}
use Rattle.edit_history.specs.Session.{session_of}
use Rattle.edit_history.proofs.Linked.{back_more, done_len, past_less}
use Rattle.edit_history.proofs.history.History.undo.Goals as goal

pub loop-step-preserved : goal.loop-step-preserved
loop-step-preserved g c =
    let kept = c.loop-step.invariant in
    record {
      linked = c.step_back.ensures.linked;
      session = back_more (session_of c.args.database.now c.args.self.now.lists) _ _ c.loop-step._step (c.loop-step._step + 1)
          (add-one c.loop-step._step)
          (omega (arith, done_len c.args.database.now c.args.self.now.lists, c.loop-step-test.true)) kept.session c.step_back.ensures.session;
      left = omega (arith, past_less c.step_back.ensures, kept.left);
    }
