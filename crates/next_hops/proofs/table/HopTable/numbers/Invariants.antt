use Rattle.std.proofs.Common.{◌≡◌, take, []}
use Rattle.next_hops.specs.steps.Shared.{AreWithin, lists_in}
use Rattle.next_hops.specs.steps.Table.{IsKept, Stays, hops_so_far, kept_list}
use Rattle.next_hops.proofs.table.HopTable.numbers.Given as goal

abbrev pub invariant-loop-index : goal.invariant-loop-index
invariant-loop-index g l = record {
  stays : Stays l.fn.self l.self;
  kept : IsKept l.self l.none;
  none : kept_list l.self l.none ≡ [];
  within : AreWithin l.self.lists.keys l.numbers.items;
  same : lists_in l.self.lists.keys l.numbers.items ≡ take l.index (hops_so_far l.fn.self);
}
