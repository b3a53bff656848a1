use Rattle.std.proofs.Common.{◌∙◌}
use Rattle.edit_history.proofs.Searches.{key_placed}
use Rattle.edit_history.proofs.fitting.is_taken.Goals as goal

pub returns : goal.returns
returns g c = c.is_some.ensures ∙ key_placed c.args.database.now c.args.section c.args.key c.find.result c.find.ensures
