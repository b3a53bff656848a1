use Rattle.std.proofs.Common.{take}
use Rattle.route_report.specs.steps.Sure.{Adds}
use Rattle.route_report.proofs.passing.add_each.Given as goal

-- those of the routers so far
abbrev pub invariant-loop-router : goal.invariant-loop-router
invariant-loop-router g l = Adds l.graph (take l.router-index l.routers) l.initial.sure.keys l.sure.keys
