use Rattle.edit_history.proofs.Accepting.{none_at_start, none_after_edit, none_after_undo, none_after_redo, none_reached}
use Rattle.edit_history.proofs.laws.no_edit_is_refused.Goals as goal

pub returns : goal.returns
returns c = record { start = none_at_start; edited = none_after_edit; undone = none_after_undo; redone = none_after_redo; reached = none_reached }
