use Rattle.std.proofs.Common.{◌++◌, take}
use Rattle.loop_report.specs.Atoms.{nets_of_all}
use Rattle.lost_routes.specs.Gathering.{Gathers}
use Rattle.loop_report.proofs.nets.insert_nets.Given as goal

-- the prefixes of the routers so far were added, and those of the last one may be added again
abbrev pub invariant-loop-routes : goal.invariant-loop-routes
invariant-loop-routes g l =
    Gathers (nets_of_all (take l.routes-index l.routes-items)) l.initial.found.keys l.found.keys
    × Gathers (nets_of_all (take l.routes-index l.routes-items) ++ l.last.items) l.initial.found.keys l.found.keys
