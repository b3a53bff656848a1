use Rattle.edit_script.specs.Spelling.{IsInRange}
use Rattle.saved_sessions.specs.Saved.{HasNoEvents}
use Rattle.saved_sessions.proofs.NoEventLemmas.{no_event_at_start, no_event_done, none_moved_back, none_moved_on}
use Rattle.branches.proofs.AcceptedEdits.{Stays, holds_after, holds_resumed, holds_stepped}
use Rattle.branches.proofs.laws.branches_have_no_events.Goals as goal

stays : Stays IsInRange HasNoEvents
stays = record { start = no_event_at_start; edited = no_event_done; undone = none_moved_back; redone = none_moved_on }

pub returns : goal.returns
returns c = record {
  begin = λ base branch. no_event_at_start base;
  resumed = λ bytes s branch is. holds_resumed IsInRange HasNoEvents stays s branch (c.opened_sessions_have_no_events.ensures bytes s is);
  command = holds_after IsInRange HasNoEvents stays;
  step = holds_stepped IsInRange HasNoEvents stays;
}
