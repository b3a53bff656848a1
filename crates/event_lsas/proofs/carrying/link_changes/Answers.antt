use Rattle.event_lsas.proofs.Leads.{leads}
use Rattle.event_lsas.proofs.carrying.link_changes.Goals as goal

pub returns-in-Ok-changes_of-clause-leads : goal.returns-in-Ok-changes_of-clause-leads
returns-in-Ok-changes_of-clause-leads g c =
    leads c.args.database.now c.args.event c.in-Ok.edit c.in-Ok-changes_of.changes.items c.in-Ok.ensures c.in-Ok-changes_of.ensures

pub returns-in-Ok-changes_of-clause-changes : goal.returns-in-Ok-changes_of-clause-changes
returns-in-Ok-changes_of-clause-changes g c =
    record { edit = c.in-Ok.edit; links = c.in-Ok.ensures; slots = c.in-Ok-changes_of.ensures }
