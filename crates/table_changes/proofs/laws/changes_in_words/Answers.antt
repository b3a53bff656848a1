use Rattle.table_changes.proofs.Words.{in_words}
use Rattle.table_changes.proofs.laws.changes_in_words.Goals as goal

pub returns : goal.returns
returns c = λ rerouted before now change. in_words rerouted before now change
