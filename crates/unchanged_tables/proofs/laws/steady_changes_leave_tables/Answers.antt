use Rattle.unchanged_tables.proofs.SteadyTables.{table_stays}
use Rattle.unchanged_tables.proofs.laws.steady_changes_leave_tables.Goals as goal

pub returns : goal.returns
returns c = table_stays
