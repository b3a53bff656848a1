use Rattle.std.proofs.Common.{◌≡◌, ◌++◌, take}
use Rattle.std.specs.Prelude.{map}
use Rattle.snmp_walk.specs.Counts.{fewer_part}
use Rattle.snmp_walk.proofs.count.put_fewer.Given as goal

abbrev pub invariant-loop-finding : goal.invariant-loop-finding
invariant-loop-finding g l = l.parts.items ≡ l.fn.parts.items ++ map fewer_part (take l.finding-index l.findings)
