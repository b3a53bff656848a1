use Rattle.std.proofs.Common.{◌≡◌, ◌-◌, ◌++◌}
use Rattle.ospf_packets.specs.Updates.{parsed_lsas}
use Rattle.ospf_packets.proofs.update.parse_lsas.Given as goal

abbrev pub invariant-lsas : goal.invariant-lsas
invariant-lsas g l =
    l.parsed.items ++ parsed_lsas l.by (l.count - l.counter) l.rest ≡ l.fn.parsed.items ++ parsed_lsas l.by l.count l.bytes
