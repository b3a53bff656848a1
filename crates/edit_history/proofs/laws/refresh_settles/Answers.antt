use Rattle.edit_history.proofs.RefreshApart.{refresh_touches_none}
use Rattle.edit_history.proofs.RefreshSettles.{refresh_leads, settled_reports_none, twice_leads}
use Rattle.summary_metrics.specs.Refreshed.{refreshed}
use Rattle.edit_history.proofs.laws.refresh_settles.Goals as goal

pub returns : goal.returns
returns c = record {
  effect = refresh_leads;
  settled = c.summaries_settle.ensures.settled;
  again = λ db sound. twice_leads db (c.summaries_settle.ensures.again db sound);
  graphs = λ db area. refresh_touches_none area db;
  silent = λ db sound. settled_reports_none (refreshed db) (c.summaries_settle.ensures.settled db sound);
}
