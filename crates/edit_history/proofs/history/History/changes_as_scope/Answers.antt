use Rattle.std.proofs.Common.{◌∙◌}
use Rattle.edit_history.specs.Exchange.{changes_as_scope}
use Rattle.edit_history.proofs.history.History.changes_as_scope.Goals as goal

pub returns : goal.returns
returns g c = c.any_changes_as_scope.ensures ∙ c.moved_records.ensures (changes_as_scope c.args.areas)
