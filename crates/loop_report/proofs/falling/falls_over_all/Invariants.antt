use Rattle.std.proofs.Common.{take}
use Rattle.std.specs.Prelude.{All}
use Rattle.lsdb.specs.Lists.{Lists}
use Rattle.loop_report.specs.steps.Falling.{FallsOver}
use Rattle.loop_report.specs.steps.Targets.{AreHopsOf}
use Rattle.loop_report.proofs.falling.falls_over_all.Given as goal

-- the costs fall over the hops so far
abbrev pub invariant-loop-hop : goal.invariant-loop-hop
invariant-loop-hop g l = (db : Lists) → AreHopsOf db l.known → All (FallsOver l.forwarding.routers l.address db l.known.router l.cost) (take l.hop-index l.hops)
