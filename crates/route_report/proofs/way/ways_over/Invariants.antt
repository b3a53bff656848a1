use Rattle.std.proofs.Common.{◌≡◌, map, take}
use Rattle.lsdb.specs.Slots.{lists_of}
use Rattle.route_report.specs.Ways.{way_over}
use Rattle.route_report.proofs.way.ways_over.Given as goal

-- those so far
abbrev pub invariant-loop-way : goal.invariant-loop-way
invariant-loop-way g l = l.shown.items ≡ map (way_over (lists_of l.database) l.router) (take l.way-index l.ways)
