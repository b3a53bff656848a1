use Rattle.std.proofs.Common.{◌≡◌, ◌+◌, ◌*◌, ◌≤◌, true, drop}
use Rattle.ospf_packets.specs.Checksums.{words_from}
use Rattle.ospf_packets.proofs.checksum.sum_of_words.Given as goal

abbrev pub invariant-loop-byte : goal.invariant-loop-byte
invariant-loop-byte l = record {
  small : l.sum ≤ 65280 * l.byte-index;
  rest : l.sum + words_from l.is_high (drop l.byte-index l.bytes) ≡ words_from true l.bytes;
}
