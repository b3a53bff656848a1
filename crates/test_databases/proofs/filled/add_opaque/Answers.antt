use Rattle.std.proofs.Common.{refl, add-one}
use Rattle.test_databases.specs.Filled.{with_opaque}
use Rattle.test_databases.proofs.filled.add_opaque.Goals as goal

pub loop-number-init : goal.loop-number-init
unfolding with_opaque
loop-number-init c = refl

pub loop-number-preserved : goal.loop-number-preserved
unfolding with_opaque
loop-number-preserved c = rw add-one (cc (c.in_ok-lsa.ensures, c.loop-number.invariant))
