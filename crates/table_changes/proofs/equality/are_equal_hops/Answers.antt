use Rattle.table_changes.proofs.Ways.{same_lists}
use Rattle.table_changes.proofs.equality.are_equal_hops.Goals as goal

pub returns : goal.returns
returns c = same_lists _ c.hop_equality.ensures c.equalities.ensures.hops c.args.before.now c.args.now.now c.eq.result c.eq.ensures
