use Rattle.std.proofs.Common.{◌≡◌, map, take}
use Rattle.change_report.specs.Lines.{change_line}
use Rattle.change_report.proofs.lines.lines_of_changes.Given as goal

-- the lines so far
abbrev pub invariant-loop-name : goal.invariant-loop-name
invariant-loop-name g l = l.lines.items ≡ map (change_line l.both) (take l.name-index l.names)
