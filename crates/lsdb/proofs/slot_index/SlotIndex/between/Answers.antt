use Rattle.std.proofs.Common.{subst}
use Rattle.lsdb.specs.steps.SlotIndex.{IsPart}
use Rattle.lsdb.proofs.SlotRanges.{parts_merged}
use Rattle.lsdb.proofs.slot_index.SlotIndex.between.Goals as goal

pub returns : goal.returns
returns g c =
    let order = g.K.Ord.cmp in
    rw c.of.ensures (parts_merged order g.met.K.Ord.total g.met.K.IndexKey.exact c.args.self.now.noted.items c.args.self.now.latest.items
    c.part_between.result.now c.part_between-2.result.now c.args.low c.args.high
    (subst (λ noted. IsPart order noted c.args.low c.args.high c.part_between.result.now) c.deref.ensures.value c.part_between.ensures)
    (subst (λ noted. IsPart order noted c.args.low c.args.high c.part_between-2.result.now) c.deref-2.ensures.value c.part_between-2.ensures))
