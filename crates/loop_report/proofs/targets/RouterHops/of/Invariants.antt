use Rattle.std.specs.Prelude.{All}
use Rattle.lsdb.specs.Lists.{Lists}
use Rattle.hop_ends.specs.Owners.{AreGraphsOf}
use Rattle.loop_report.specs.steps.Targets.{AreTargets}
use Rattle.loop_report.proofs.targets.RouterHops.of.Given as goal

-- the routers that the hops so far lead to
abbrev pub invariant-loop-hop : goal.invariant-loop-hop
invariant-loop-hop g l = (db : Lists) → AreGraphsOf db l.graphs → All (AreTargets db l.router) l.hops.items
