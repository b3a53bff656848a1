use Rattle.std.proofs.Common.{◌≡◌, take}
use Rattle.lsdb.proofs.copy.copy_of_slots.Given as goal

abbrev pub invariant-loop-slot : goal.invariant-loop-slot
invariant-loop-slot g l = l.copy.items ≡ take l.slot-index l.slots
