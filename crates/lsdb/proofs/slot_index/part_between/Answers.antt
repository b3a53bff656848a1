use Rattle.std.proofs.Common.{◌≡◌, ◌-◌, length, take, drop, arith, rules}
use Rattle.std.proofs.lemmas.List.{take_all, length-drop}
use Rattle.std.proofs.lemmas.List.Sorted.{IsPartitionPoint-from_clause}
use Rattle.lsdb.proofs.SlotRanges.{is_below, is_upto, parted_after, parted_below, part_between}
use Rattle.lsdb.proofs.slot_index.part_between.Goals as goal

pub returns : goal.returns
returns g c =
    let order = g.K.Ord.cmp in
    let total = g.met.K.Ord.total in
    let exact = g.met.K.IndexKey.exact in
    let noted = c.args.noted.now in
    let start = c.partition_point-start.result in
    let rest = take (length noted - start) (drop start noted) in
    let whole : rest ≡ drop start noted = take_all (length noted - start) (drop start noted) (omega (arith, length-drop start noted)) in
    part_between order total exact noted rest c.args.low c.args.high start c.partition_point-end.result c.requires whole
    (IsPartitionPoint-from_clause (is_below order c.args.low) noted start c.partition_point-start.ensures.partitioned
    (parted_below order total exact c.args.low noted c.requires) (λ a r f called. search rules))
    (IsPartitionPoint-from_clause (is_upto order c.args.high) rest c.partition_point-end.result c.partition_point-end.ensures.partitioned
    (parted_after order total exact c.args.high noted rest start c.requires whole) (λ a r f called. search rules))
