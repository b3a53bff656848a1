use Rattle.test_support.proofs.Sums.{first_sum_more, second_sum_more}
use Rattle.test_support.proofs.fletcher.sums.Goals as goal

pub loop-byte-preserved : goal.loop-byte-preserved
loop-byte-preserved c =
    let first = first_sum_more c.args.bytes.now c.loop-byte.byte-index c.loop-byte-test.true in
    let second = second_sum_more c.args.bytes.now c.loop-byte.byte-index c.loop-byte-test.true in
    record { first = cc; second = cc }
