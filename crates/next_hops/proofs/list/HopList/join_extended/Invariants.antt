use Rattle.std.proofs.Common.{◌≡◌, ◌++◌, map, take}
use Rattle.area_graph.specs.Rising.{rising}
use Rattle.next_hops.specs.Hop.{hop_cmp, extended}
use Rattle.next_hops.proofs.list.HopList.join_extended.Given as goal

abbrev pub invariant-loop-hop : goal.invariant-loop-hop
invariant-loop-hop g l = l.self ≡ rising hop_cmp (l.initial.self ++ map (λ h. extended h l.address) (take l.hop-index l.more))
