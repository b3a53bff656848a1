use Rattle.std.proofs.Common.{take}
use Rattle.snmp_walk.specs.steps.Numbers.{AreNumbers}
use Rattle.snmp_walk.proofs.count.numbers_of.Given as goal

abbrev pub invariant-loop-row : goal.invariant-loop-row
invariant-loop-row g l = AreNumbers (take l.row-index l.rows) l.numbers
