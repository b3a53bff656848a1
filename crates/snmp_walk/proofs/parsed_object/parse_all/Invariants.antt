use Rattle.std.proofs.Common.{◌≡◌, ◌++◌, drop}
use Rattle.snmp_walk.specs.ParsedObjects.{parsed_in}
use Rattle.snmp_walk.proofs.ParsedObjects.{parsed_later}
use Rattle.snmp_walk.proofs.parsed_object.parse_all.Given as goal

abbrev pub invariant-loop-index : goal.invariant-loop-index
invariant-loop-index g l = l.parsed.items ++ parsed_later (drop l.index l.text) ≡ parsed_in l.text
