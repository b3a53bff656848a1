use Rattle.saved_sessions.proofs.CanSave.{saved_where}
use Rattle.saved_sessions.proofs.saving.put_history.Goals as goal

pub returns-clause-session : goal.returns-clause-session
returns-clause-session g c =
    saved_where c.put_lines.result c.args.planner.now.session _ c.requires c.database.ensures.reached c.records-records.ensures.edits
    c.records-records.ensures.few c.put_lines.ensures.range
