use Rattle.edit_history.proofs.Returning.{back_and_on, on_and_back, edits_back}
use Rattle.edit_history.proofs.laws.moves.Goals as goal

pub returns : goal.returns
returns c = record { redone = back_and_on; undone = on_and_back; back = edits_back }
