use Rattle.std.proofs.Common.{◌≡◌, false, [], drop}
use Rattle.snmp_walk.specs.Values.{quoted_after}
use Rattle.snmp_walk.proofs.value.quoted.Given as goal

abbrev pub invariant-loop-index : goal.invariant-loop-index
invariant-loop-index g l = quoted_after l.bytes.items l.escaped (drop l.index l.text) ≡ quoted_after [] false l.text
