use Rattle.std.proofs.Common.{◌≡◌, map, take}
use Rattle.finding_json.specs.Differences.{difference_json}
use Rattle.finding_json.proofs.difference.shown_lines.Given as goal

-- the differences so far
abbrev pub invariant-loop-line : goal.invariant-loop-line
invariant-loop-line g l = map (λ difference. difference_json difference.0) l.shown.items ≡ map difference_json (take l.line-index l.lines)
