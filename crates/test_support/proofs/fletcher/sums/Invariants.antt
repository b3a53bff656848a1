use Rattle.std.proofs.Common.{◌≡◌, take}
use Rattle.test_support.specs.Fletcher.{first_sum, second_sum}
use Rattle.test_support.proofs.fletcher.sums.Given as goal

abbrev pub invariant-loop-byte : goal.invariant-loop-byte
invariant-loop-byte l = record {
  first : l.first ≡ first_sum (take l.byte-index l.bytes);
  second : l.second ≡ second_sum (take l.byte-index l.bytes);
}
