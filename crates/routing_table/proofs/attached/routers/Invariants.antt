use Rattle.std.proofs.Common.{◌≡◌, take}
use Rattle.std.specs.List.{filter_map}
use Rattle.lsdb.specs.Lists.{areas_of}
use Rattle.lsdb.specs.Slots.{lists_of}
use Rattle.area_graph.specs.Rising.{rising}
use Rattle.lsa_codec.specs.Order.{router_cmp}
use Rattle.routing_table.specs.Routers.{live_router}
use Rattle.routing_table.proofs.AreaLsaLemmas.{lsas_among}
use Rattle.routing_table.proofs.attached.routers.Given as goal

-- the routers of the areas so far
abbrev pub invariant-loop-i : goal.invariant-loop-i
invariant-loop-i g l = l.found.keys ≡ rising router_cmp (filter_map live_router (lsas_among (lists_of l.database) (take l.i (areas_of (lists_of l.database)))))
