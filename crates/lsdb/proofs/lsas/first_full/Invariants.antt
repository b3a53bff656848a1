use Rattle.std.proofs.Common.{◌≡◌, drop}
use Rattle.lsdb.specs.Slots.{full}
use Rattle.lsdb.proofs.lsas.first_full.Given as goal

abbrev pub invariant-loop-index : goal.invariant-loop-index
invariant-loop-index g l = full (drop l.index l.slots) ≡ full l.slots
