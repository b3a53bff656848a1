use Rattle.std.proofs.Common.{◌≡◌, ◌++◌, drop}
use Rattle.lsdb.specs.Slots.{lists_of}
use Rattle.summary_metrics.specs.SummaryMetrics.{AreOf}
use Rattle.edit_history.specs.Refreshing.{pass_fates}
use Rattle.edit_history.specs.steps.Passing.{chosen}
use Rattle.edit_history.specs.steps.Plans.{swaps_from}
use Rattle.edit_history.proofs.refreshing.metric_swaps.Given as goal

abbrev pub invariant-loop-number : goal.invariant-loop-number
invariant-loop-number g l = record {
  known : AreOf (lists_of l.database) l.known;
  swaps : l.swaps.items ++ swaps_from (pass_fates (chosen l.pass) (lists_of l.database)) l.number (drop l.number l.database)
      ≡ swaps_from (pass_fates (chosen l.pass) (lists_of l.database)) 0 l.database;
}
