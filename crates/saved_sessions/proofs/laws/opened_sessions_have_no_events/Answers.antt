use Rattle.saved_sessions.specs.Saved.{HasNoEvents}
use Rattle.saved_sessions.proofs.OpenedEdits.{opened_keeps}
use Rattle.saved_sessions.proofs.NoEventLemmas.{no_event_done, no_event_at_start, none_moved_back}
use Rattle.saved_sessions.proofs.laws.opened_sessions_have_no_events.Goals as goal

pub returns : goal.returns
returns c = opened_keeps HasNoEvents
    (record {
      start = no_event_at_start;
      edited = no_event_done;
      undone = none_moved_back;
    })
    c.line_laws.ensures.spelled
