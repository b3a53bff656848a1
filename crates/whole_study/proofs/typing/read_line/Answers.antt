use Rattle.std.proofs.Common.{◌≤◌, arith, length, refl}
use Rattle.whole_study.proofs.TypedBytes.{begun_long}
use Rattle.whole_study.proofs.typing.read_line.Goals as goal

pub returns-in-Ok-Some-read_byte-clause-begun : goal.returns-in-Ok-Some-read_byte-clause-begun
returns-in-Ok-Some-read_byte-clause-begun g c =
    let long : c.args.limit ≤ length c.bytes.text.items = omega (arith, c.bytes-test.false, c.bytes.text.ok) in
    begun_long c.args.limit _ _ _ c.bytes.text.items c.in-Ok-Some-read_byte.field-0-0 _ refl c.bytes.invariant.typed
    (rw c.in-Ok-Some-read_byte.field-0-is at c.in-Ok-Some-read_byte.ensures.taken) long
