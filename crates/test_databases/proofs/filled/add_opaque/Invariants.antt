use Rattle.std.proofs.Common.{◌≡◌}
use Rattle.test_databases.specs.Filled.{with_opaque}
use Rattle.test_databases.proofs.filled.add_opaque.Given as goal

-- the LSAs so far
abbrev pub invariant-loop-number : goal.invariant-loop-number
invariant-loop-number l = l.lsas ≡ with_opaque l.kind l.number l.initial.lsas
