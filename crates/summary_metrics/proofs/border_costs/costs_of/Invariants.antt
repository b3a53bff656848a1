use Rattle.std.proofs.Common.{take}
use Rattle.summary_metrics.specs.SummaryMetrics.{HasCosts}
use Rattle.summary_metrics.proofs.border_costs.costs_of.Given as goal

-- the entries so far
abbrev pub invariant-loop-entry : goal.invariant-loop-entry
invariant-loop-entry g l = HasCosts (take l.entry-index l.entries) l.costs.entries
