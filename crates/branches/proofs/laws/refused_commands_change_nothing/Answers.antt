use Rattle.branches.proofs.RefusedCommands.{refused_stays}
use Rattle.branches.proofs.laws.refused_commands_change_nothing.Goals as goal

pub returns : goal.returns
returns c = refused_stays
