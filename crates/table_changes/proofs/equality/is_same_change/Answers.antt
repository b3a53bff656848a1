use Rattle.std.proofs.Common.{◌∙◌}
use Rattle.table_changes.proofs.equality.is_same_change.Goals as goal

pub returns : goal.returns
returns c = c.eq.ensures ∙ c.equalities.ensures.changes c.args.change c.args.other
