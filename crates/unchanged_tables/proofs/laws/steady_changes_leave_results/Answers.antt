use Rattle.unchanged_tables.proofs.SteadyResults.{steady_result}
use Rattle.unchanged_tables.proofs.laws.steady_changes_leave_results.Goals as goal

pub returns : goal.returns
returns c = steady_result
