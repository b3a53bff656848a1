use Rattle.std.proofs.Common.{◌≡◌, map, take}
use Rattle.loop_report.specs.Blackholes.{blackhole_at}
use Rattle.loop_report.proofs.blackhole.new_blackholes.Given as goal

-- the blackholes so far
abbrev pub invariant-loop-router : goal.invariant-loop-router
invariant-loop-router g l = l.found.items ≡ map (blackhole_at l.net l.is) (take l.router-index l.router-items)
