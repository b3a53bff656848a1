use Rattle.std.proofs.Common.{take}
use Rattle.lost_routes.specs.Gathering.{Gathers}
use Rattle.loop_report.proofs.nets.insert_all.Given as goal

-- the prefixes so far were added
abbrev pub invariant-loop-net : goal.invariant-loop-net
invariant-loop-net g l = Gathers (take l.net-index l.nets) l.initial.found.keys l.found.keys
