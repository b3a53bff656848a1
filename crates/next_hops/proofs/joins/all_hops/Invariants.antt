use Rattle.std.proofs.Common.{◌≡◌, take}
use Rattle.area_graph.specs.Rising.{rising}
use Rattle.next_hops.specs.Hop.{hop_cmp}
use Rattle.next_hops.specs.steps.Shared.{hops_in}
use Rattle.next_hops.proofs.joins.all_hops.Given as goal

abbrev pub invariant-loop-number : goal.invariant-loop-number
invariant-loop-number g l = l.hops ≡ rising hop_cmp (hops_in l.lists.keys (take l.number-index l.numbers))
