use Rattle.edit_history.specs.Session.{NoneRefused}
use Rattle.saved_sessions.proofs.OpenedEdits.{opened_keeps}
use Rattle.saved_sessions.proofs.laws.opened_sessions_refuse_no_edit.Goals as goal

pub returns : goal.returns
returns c =
    let kept = c.no_edit_is_refused.ensures in
    opened_keeps NoneRefused
    (record {
      start = kept.start;
      edited = λ s t edit fits. kept.edited s t edit;
      undone = kept.undone;
    })
    c.line_laws.ensures.spelled
