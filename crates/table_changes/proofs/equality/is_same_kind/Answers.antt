use Rattle.std.proofs.Common.{◌∙◌}
use Rattle.table_changes.proofs.equality.is_same_kind.Goals as goal

pub returns : goal.returns
returns c = c.eq.ensures ∙ c.equalities.ensures.kinds c.args.kind c.args.other
