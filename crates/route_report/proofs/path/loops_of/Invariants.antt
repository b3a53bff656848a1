use Rattle.std.proofs.Common.{◌≡◌, take}
use Rattle.route_report.proofs.path.loops_of.Given as goal

-- those so far
abbrev pub invariant-loop-found : goal.invariant-loop-found
invariant-loop-found g l = l.shown.items ≡ take l.found-index l.loops
