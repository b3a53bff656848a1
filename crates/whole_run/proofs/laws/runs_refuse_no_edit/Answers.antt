use Rattle.edit_script.specs.declared.command.Command.{Command}
use Rattle.edit_history.specs.Session.{NoneRefused}
use Rattle.branches.specs.Branches.{resumed}
use Rattle.whole_run.proofs.AcceptedEdits.{lines_keep}
use Rattle.whole_run.proofs.laws.runs_refuse_no_edit.Goals as goal

-- whatever command it is
abbrev Any : Command → Type 0
Any c = Unit {0}

pub returns : goal.returns
returns c dump s lines branch is =
    lines_keep Any NoneRefused (λ all branch command fits. c.branches_refuse_no_edit.ensures.step all branch command)
    (λ line branch command means. tt) (resumed s) lines
    (λ other. c.branches_refuse_no_edit.ensures.resumed dump s other is) branch
