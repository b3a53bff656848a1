use Rattle.std.proofs.Common.{◌≡◌, ◌++◌, map, take}
use Rattle.lsa_differences.specs.declared.line.DifferenceLine.TheVariants.{Lsa}
use Rattle.lsa_differences.proofs.differences.push_changes.Given as goal

-- those so far
abbrev pub invariant-loop-change : goal.invariant-loop-change
invariant-loop-change g l = l.lines.items ≡ l.initial.lines.items ++ map (Lsa l.name) (take l.change-index l.changes)
