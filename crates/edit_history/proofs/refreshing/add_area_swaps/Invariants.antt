use Rattle.std.proofs.Common.{◌≡◌, ◌++◌, drop}
use Rattle.lsdb.specs.declared.section.Section.TheVariants.{Area}
use Rattle.lsdb.specs.Slots.{slots_in, lists_of}
use Rattle.summary_metrics.specs.SummaryMetrics.{AreOf}
use Rattle.edit_history.specs.Refreshing.{metric_fate}
use Rattle.edit_history.specs.steps.Plans.{section_swaps}
use Rattle.edit_history.proofs.refreshing.add_area_swaps.Given as goal

abbrev pub invariant-loop-index : goal.invariant-loop-index
invariant-loop-index g l = record {
  known : AreOf (lists_of l.database) l.known;
  swaps : l.swaps.items ++ section_swaps (metric_fate (lists_of l.database) l.area) l.number (Area l.area) l.index
      (drop l.index (slots_in l.database l.number))
      ≡ l.fn.swaps.items ++ section_swaps (metric_fate (lists_of l.database) l.area) l.number (Area l.area) 0
      (slots_in l.database l.number);
}
