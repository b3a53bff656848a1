use Rattle.std.proofs.Common.{◌≡◌, take}
use Rattle.std.specs.List.{flat_map}
use Rattle.lsdb.specs.Lists.{Lists}
use Rattle.hop_ends.specs.Owners.{AreGraphsOf}
use Rattle.hop_ends.specs.Ways.{ways_over}
use Rattle.hop_ends.proofs.ways.ways_of.Given as goal

-- the ways over the hops so far
abbrev pub invariant-loop-hop : goal.invariant-loop-hop
invariant-loop-hop g l = (db : Lists) → AreGraphsOf db l.graphs
    → l.ways.items ≡ flat_map (ways_over db l.router l.route.net l.route.kind) (take l.hop-index l.hop-items)
