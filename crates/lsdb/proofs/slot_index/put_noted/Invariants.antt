use Rattle.std.proofs.Common.{◌≤◌, length, vec_capacity}
use Rattle.lsdb.specs.steps.SlotIndex.{most_slots}
use Rattle.lsdb.proofs.SlotIndexes.{NotedSoFar}
use Rattle.lsdb.proofs.slot_index.put_noted.Given as goal

abbrev pub invariant-loop-index : goal.invariant-loop-index
invariant-loop-index g l = record {
  so_far : NotedSoFar g.K.IndexKey.found_by l.slots l.index l.noted.items;
  few : length l.noted.items ≤ l.index;
  room : length l.slots ≤ vec_capacity l.noted;
  narrow : length l.slots ≤ most_slots;
}
