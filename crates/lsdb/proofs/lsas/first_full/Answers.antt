use Rattle.std.proofs.Common.{◌+◌, arith, refl}
use Rattle.lsdb.proofs.Walked.{first_full}
use Rattle.lsdb.proofs.lsas.first_full.Goals as goal

pub returns-in-Some : goal.returns-in-Some
returns-in-Some g c =
    first_full c.args.slots.now _ c.loop-index.index (c.loop-index.index + 1) c.in-Some.lsa c.index-slots-index.result
    c.loop-index-test.true (omega arith) c.index-slots-index.is c.in-Some.is refl c.loop-index.invariant
