use Rattle.std.proofs.Common.{◌≡◌, map, take}
use Rattle.change_report.specs.Lines.{lost_line}
use Rattle.change_report.proofs.lines.lines_of_lost.Given as goal

-- the lines so far
abbrev pub invariant-loop-pair : goal.invariant-loop-pair
invariant-loop-pair g l = l.lines.items ≡ map (lost_line l.both) (take l.pair-index l.pairs)
