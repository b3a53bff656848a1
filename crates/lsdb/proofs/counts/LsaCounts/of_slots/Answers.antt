use Rattle.std.proofs.Common.{arith}
use Rattle.lsdb.proofs.CountedLsas.{counts_more, more_few}
use Rattle.lsdb.proofs.counts.LsaCounts.of_slots.Goals as goal

pub loop-slot-preserved : goal.loop-slot-preserved
loop-slot-preserved g c = record {
  counts =
      counts_more c.args.slots.now c.loop-slot.slot-index c.slot-item.result c.loop-slot.counts c.of_slot.result c.with-counts.result (omega arith) c.slot-item.is
      c.loop-slot.invariant.counts c.of_slot.ensures.counts c.with-counts.ensures;
  few = more_few c.loop-slot.slot-index c.loop-slot.counts c.of_slot.result c.with-counts.result c.loop-slot.invariant.few c.of_slot.ensures.few c.with-counts.ensures;
}
