use Rattle.std.proofs.Common.{◌≡◌, take}
use Rattle.lsdb.specs.Counts.{AreFew, counts_of}
use Rattle.lsdb.specs.Slots.{full}
use Rattle.lsdb.proofs.counts.LsaCounts.of_slots.Given as goal

-- the counts of the slots so far
abbrev pub invariant-loop-slot : goal.invariant-loop-slot
invariant-loop-slot g l = record {
  counts : l.counts ≡ counts_of (full (take l.slot-index l.slots));
  few : AreFew l.slot-index l.counts;
}
