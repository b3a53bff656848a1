use Rattle.std.proofs.Common.{◌≡◌, ◌++◌, take}
use Rattle.area_graph.specs.Rising.{rising}
use Rattle.next_hops.specs.Hop.{hop_cmp}
use Rattle.next_hops.proofs.list.HopList.join.Given as goal

abbrev pub invariant-loop-hop : goal.invariant-loop-hop
invariant-loop-hop g l = l.self ≡ rising hop_cmp (l.initial.self ++ take l.hop-index l.more)
