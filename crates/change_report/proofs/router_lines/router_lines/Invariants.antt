use Rattle.std.proofs.Common.{◌≡◌, map, take}
use Rattle.change_report.specs.steps.RouterLines.{router_line}
use Rattle.change_report.proofs.router_lines.router_lines.Given as goal

-- the lines so far
abbrev pub invariant-loop-name : goal.invariant-loop-name
invariant-loop-name g l = l.lines.items ≡ map (router_line l.one) (take l.name-index l.names)
