use Rattle.std.proofs.Common.{◌≡◌, take}
use Rattle.std.specs.List.{filter_map}
use Rattle.lsdb.specs.Slots.{lists_of}
use Rattle.hop_ends.specs.Owners.{AreGraphsOf}
use Rattle.route_report.specs.Lines.{line_for}
use Rattle.route_report.proofs.routes.lines_for.Given as goal

-- those of the prefixes so far
abbrev pub invariant-loop-net : goal.invariant-loop-net
invariant-loop-net g l = AreGraphsOf (lists_of l.database) l.graphs
    → l.lines.items ≡ filter_map (line_for (lists_of l.database) l.routes) (take l.net-index l.nets)
