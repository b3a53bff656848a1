use Rattle.edit_history.proofs.RecordChanges.{applied_reports, done_reports, undone_reports}
use Rattle.edit_history.proofs.laws.changes_reported.Goals as goal

pub returns : goal.returns
returns c = record { applied = applied_reports; done = done_reports; undone = undone_reports }
