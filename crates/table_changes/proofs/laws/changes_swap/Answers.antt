use Rattle.table_changes.proofs.Swapped.{all_swap}
use Rattle.table_changes.proofs.laws.changes_swap.Goals as goal

pub returns : goal.returns
returns c = λ rerouted before now. all_swap rerouted before now
