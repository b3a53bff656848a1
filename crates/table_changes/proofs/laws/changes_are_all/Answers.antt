use Rattle.table_changes.proofs.Listed.{are_changes}
use Rattle.table_changes.proofs.laws.changes_are_all.Goals as goal

pub returns : goal.returns
returns c = λ rerouted before now. are_changes rerouted before now
