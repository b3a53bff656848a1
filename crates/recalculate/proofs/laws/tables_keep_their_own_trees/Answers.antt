use Rattle.recalculate.proofs.OwnTrees.{carried_keeps_away, none_yet, others_stay_away}
use Rattle.recalculate.proofs.laws.tables_keep_their_own_trees.Goals as goal

pub returns-clause-table : goal.returns-clause-table
returns-clause-table c = others_stay_away

pub returns-clause-carried_out : goal.returns-clause-carried_out
returns-clause-carried_out c = carried_keeps_away

pub returns-clause-first : goal.returns-clause-first
returns-clause-first c = none_yet
