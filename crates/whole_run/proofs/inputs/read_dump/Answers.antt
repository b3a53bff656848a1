use Rattle.std.proofs.Common.{ap, arith, Err}
use Rattle.whole_run.proofs.ReadBytes.{consumes_less, reads_on}
use Rattle.whole_run.proofs.inputs.read_dump.Goals as goal

pub returns-in-Err-TooLarge-clause-bounded : goal.returns-in-Err-TooLarge-clause-bounded
returns-in-Err-TooLarge-clause-bounded g c =
    let more = c.in-Err-TooLarge.ensures.too_large (ap Err c.in-Err-TooLarge.field-0-is) in
    reads_on _ _ _ _ _ c.new-bytes.ensures.items more.0 (omega (arith, more.1, c.read_more.new.bytes.ok))
    (consumes_less _ _ _ _ (omega (arith, c.new-bytes.ensures.len)) c.read_more.ensures.bounded)
    c.read_on.ensures.bounded
