use Rattle.table_changes.proofs.Swapped.{no_changes}
use Rattle.table_changes.proofs.laws.same_entries_do_not_differ.Goals as goal

pub returns : goal.returns
returns c = λ entries. no_changes entries
