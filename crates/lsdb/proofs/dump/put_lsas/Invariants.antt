use Rattle.std.proofs.Common.{◌≡◌, ◌++◌, take}
use Rattle.std.specs.List.{concat}
use Rattle.lsdb.specs.Slots.{full}
use Rattle.lsdb.proofs.dump.put_lsas.Given as goal

abbrev pub invariant-loop-slot : goal.invariant-loop-slot
invariant-loop-slot g l = l.out.items ≡ l.fn.out.items ++ concat (full (take l.slot-index l.slots))
