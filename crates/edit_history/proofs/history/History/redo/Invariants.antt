use Rattle.std.proofs.Common.{◌≡◌, ◌+◌, length}
use Rattle.edit_history.specs.Journal.{Links}
use Rattle.edit_history.specs.Session.{session_of, moved_on}
use Rattle.edit_history.proofs.history.History.redo.Given as goal

abbrev pub invariant-loop-step : goal.invariant-loop-step
invariant-loop-step g l = record {
  linked : Links l.database l.self.lists;
  session : session_of l.database l.self.lists ≡ moved_on l._step (session_of l.fn.database l.fn.self.lists);
  left : length l.self.lists.future + l._step ≡ length l.fn.self.lists.future;
}
