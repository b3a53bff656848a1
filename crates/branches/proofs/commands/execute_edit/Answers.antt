use Rattle.branches.proofs.KeptBase.{edited_keeps_base}
use Rattle.branches.proofs.commands.execute_edit.Goals as goal

pub returns-in-Ok-clause-base : goal.returns-in-Ok-clause-base
returns-in-Ok-clause-base g c = edited_keeps_base _ _ _ c.in-Ok.ensures.ok
