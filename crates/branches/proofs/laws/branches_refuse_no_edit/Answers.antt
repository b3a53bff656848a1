use Rattle.edit_script.specs.declared.command.Command.{Command}
use Rattle.edit_history.specs.Session.{NoneRefused}
use Rattle.branches.proofs.AcceptedEdits.{Stays, holds_after, holds_resumed, holds_stepped}
use Rattle.branches.proofs.laws.branches_refuse_no_edit.Goals as goal

-- whatever command it is
abbrev Any : Command → Type 0
Any c = Unit {0}

pub returns : goal.returns
returns c =
    let kept = c.no_edit_is_refused.ensures in
    let stays : Stays Any NoneRefused =
    record { start = kept.start; edited = λ s t edit fits. kept.edited s t edit; undone = kept.undone; redone = kept.redone } in
    record {
      begin = λ base branch. kept.start base;
      resumed = λ bytes s branch is. holds_resumed Any NoneRefused stays s branch (c.opened_sessions_refuse_no_edit.ensures bytes s is);
      command = λ s command. holds_after Any NoneRefused stays s command tt;
      step = λ all branch command. holds_stepped Any NoneRefused stays all branch command tt;
    }
