use Rattle.std.proofs.Common.{◌≡◌, ◌≤◌, length, take}
use Rattle.next_hops.specs.steps.Renumbered.{IsRenumbered}
use Rattle.next_hops.specs.steps.Shared.{AreWithin, lists_in}
use Rattle.next_hops.proofs.hops.Hops.renumbering.Given as goal

abbrev pub invariant-loop-number : goal.invariant-loop-number
invariant-loop-number g l = record {
  renumbered : IsRenumbered l.lists.keys l.renumbered;
  few : length l.renumbered.lists.items ≤ l.number-index;
  within : AreWithin l.renumbered.lists.items l.short.items;
  same : lists_in l.renumbered.lists.items l.short.items ≡ take l.number-index (lists_in l.lists.keys l.numbers);
}
