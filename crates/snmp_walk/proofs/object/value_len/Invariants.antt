use Rattle.std.proofs.Common.{◌≡◌, ◌++◌, take, drop}
use Rattle.snmp_walk.specs.Objects.{value_in}
use Rattle.snmp_walk.proofs.object.value_len.Given as goal

abbrev pub invariant-loop-len : goal.invariant-loop-len
invariant-loop-len l = take l.len l.text ++ value_in (drop l.len l.text) ≡ value_in l.text
