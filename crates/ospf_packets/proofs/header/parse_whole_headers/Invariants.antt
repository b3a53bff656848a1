use Rattle.std.proofs.Common.{◌≡◌, ◌++◌}
use Rattle.ospf_packets.proofs.Headers.{first_headers}
use Rattle.ospf_packets.proofs.header.parse_whole_headers.Given as goal

abbrev pub invariant-loop-index : goal.invariant-loop-index
invariant-loop-index g l = l.parsed.items ≡ l.initial.parsed.items ++ first_headers l.area l.bytes l.index
