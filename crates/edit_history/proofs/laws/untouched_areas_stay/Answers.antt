use Rattle.edit_history.proofs.Sparing.{untouched_stay}
use Rattle.edit_history.proofs.Touching.{applied_touches, undo_spares, redo_spares}
use Rattle.edit_history.proofs.laws.untouched_areas_stay.Goals as goal

pub returns : goal.returns
returns c = record {
  applied = λ d e edit r area applied. applied_touches area d e edit r applied;
  edit = untouched_stay;
  undone = undo_spares;
  redone = redo_spares;
}
