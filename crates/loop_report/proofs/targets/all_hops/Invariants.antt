use Rattle.std.specs.Prelude.{All}
use Rattle.lsdb.specs.Lists.{Lists}
use Rattle.hop_ends.specs.Owners.{AreGraphsOf}
use Rattle.loop_report.specs.steps.Targets.{AreHopsOf}
use Rattle.loop_report.proofs.targets.all_hops.Given as goal

-- those of the routers so far
abbrev pub invariant-loop-routes : goal.invariant-loop-routes
invariant-loop-routes g l = (db : Lists) → AreGraphsOf db l.forwarding.graphs → All (AreHopsOf db) l.found.items
