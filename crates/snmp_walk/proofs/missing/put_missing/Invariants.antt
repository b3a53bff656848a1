use Rattle.std.proofs.Common.{◌≡◌, ◌++◌, take}
use Rattle.std.specs.Prelude.{map}
use Rattle.snmp_walk.specs.Missing.{missing_row}
use Rattle.snmp_walk.proofs.missing.put_missing.Given as goal

abbrev pub invariant-loop-row : goal.invariant-loop-row
invariant-loop-row g l = l.parts.items ≡ l.fn.parts.items ++ map missing_row (take l.row-index l.rows)
