use Rattle.std.proofs.Common.{◌≡◌, take}
use Rattle.summary_metrics.specs.SummaryMetrics.{asbr_entries}
use Rattle.summary_metrics.proofs.asbr_entries.asbr_entries.Given as goal

-- the entries of the areas so far
abbrev pub invariant-loop-area : goal.invariant-loop-area
invariant-loop-area g l = l.all ≡ asbr_entries (take l.area-index l.results)
