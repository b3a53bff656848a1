use Rattle.std.proofs.Common.{◌≡◌, take}
use Rattle.summary_metrics.specs.steps.AnnouncedCosts.{announced_from}
use Rattle.summary_metrics.proofs.border_costs.BorderCosts.announced_from.Given as goal

-- the least over the sources so far
abbrev pub invariant-loop-source : goal.invariant-loop-source
invariant-loop-source g l = l.least ≡ announced_from l.router l.self (take l.source-index l.sources)
