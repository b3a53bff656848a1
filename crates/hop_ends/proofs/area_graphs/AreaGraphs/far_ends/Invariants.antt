use Rattle.std.proofs.Common.{◌≡◌, take}
use Rattle.std.specs.List.{flat_map}
use Rattle.lsa_codec.specs.Order.{router_cmp}
use Rattle.lsdb.specs.Lists.{Lists, areas_of}
use Rattle.area_graph.specs.Rising.{rising}
use Rattle.hop_ends.specs.Owners.{AreGraphsOf, far_ends_in}
use Rattle.hop_ends.proofs.area_graphs.AreaGraphs.far_ends.Given as goal

-- those of the areas so far
abbrev pub invariant-loop-graph : goal.invariant-loop-graph
invariant-loop-graph g l = (db : Lists) → AreGraphsOf db l.self
    → rising router_cmp l.found.items ≡ rising router_cmp (flat_map (far_ends_in db l.router l.interface) (take l.graph-index (areas_of db)))
