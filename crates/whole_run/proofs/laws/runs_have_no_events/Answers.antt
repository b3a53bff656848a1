use Rattle.edit_script.specs.Spelling.{IsInRange}
use Rattle.saved_sessions.specs.Saved.{HasNoEvents}
use Rattle.branches.specs.Branches.{resumed}
use Rattle.whole_run.proofs.AcceptedEdits.{lines_keep}
use Rattle.whole_run.proofs.laws.runs_have_no_events.Goals as goal

pub returns : goal.returns
returns c dump s lines branch is =
    lines_keep IsInRange HasNoEvents c.branches_have_no_events.ensures.step
    (λ line branch command means. ((c.reads_what_is_said.ensures line branch command).0 means).0) (resumed s) lines
    (λ other. c.branches_have_no_events.ensures.resumed dump s other is) branch
