use Rattle.summary_metrics.proofs.Settled.{refreshed_settled, refreshed_twice}
use Rattle.summary_metrics.proofs.laws.summaries_settle.Goals as goal

pub returns-clause-settled : goal.returns-clause-settled
returns-clause-settled c = refreshed_settled

pub returns-clause-again : goal.returns-clause-again
returns-clause-again c = refreshed_twice
