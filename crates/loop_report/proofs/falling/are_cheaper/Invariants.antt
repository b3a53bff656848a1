use Rattle.std.proofs.Common.{take}
use Rattle.loop_report.specs.steps.Falling.{AreCheaper}
use Rattle.loop_report.proofs.falling.are_cheaper.Given as goal

-- the routers so far are cheaper
abbrev pub invariant-loop-router : goal.invariant-loop-router
invariant-loop-router g l = AreCheaper l.forwarding.routers l.address l.cost (take l.router-index l.routers)
