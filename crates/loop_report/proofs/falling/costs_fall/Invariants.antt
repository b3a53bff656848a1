use Rattle.std.proofs.Common.{take}
use Rattle.std.specs.Prelude.{All}
use Rattle.lsdb.specs.Lists.{Lists}
use Rattle.loop_report.specs.steps.Falling.{Falls}
use Rattle.loop_report.specs.steps.Targets.{AreHopsOf}
use Rattle.loop_report.proofs.falling.costs_fall.Given as goal

-- the costs fall along the ways of the routers so far
abbrev pub invariant-loop-index : goal.invariant-loop-index
invariant-loop-index g l = (db : Lists) → All (AreHopsOf db) l.hops → All (Falls l.forwarding.routers l.address db) (take l.index l.routers)
