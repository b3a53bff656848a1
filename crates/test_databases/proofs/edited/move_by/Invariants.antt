use Rattle.std.proofs.Common.{◌≡◌, ◌+◌, length}
use Rattle.edit_history.specs.Journal.{Links}
use Rattle.edit_history.specs.Session.{session_of}
use Rattle.test_databases.specs.Edited.{movable, moved}
use Rattle.test_databases.proofs.edited.move_by.Given as goal

-- the number of edits moved is the number of steps
abbrev pub invariant-loop-step : goal.invariant-loop-step
invariant-loop-step g l = record {
  linked : Links l.database l.history.lists;
  session : session_of l.database l.history.lists ≡ moved l.way l._step (session_of l.fn.database l.fn.history.lists);
  left : length (movable l.way l.history.lists) + l._step ≡ length (movable l.way l.fn.history.lists);
}
