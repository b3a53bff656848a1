use Rattle.std.proofs.Common.{◌≡◌, ◌++◌, List, map}
use Rattle.std.specs.List.{filter_map}
use Rattle.lsa_codec.specs.declared.address.RouterId.{RouterId}
use Rattle.area_graph.specs.Rising.{rising}
use Rattle.lsa_codec.specs.Order.{router_cmp}
use Rattle.routing_table.specs.Routers.{live_router}
use Rattle.routing_table.proofs.attached.add_routers.Given as goal

-- the routers of the LSAs so far were added
abbrev pub invariant-loop-lsa : goal.invariant-loop-lsa
invariant-loop-lsa g l = (before : List RouterId) → l.initial.found.keys ≡ rising router_cmp before
    → l.found.keys ≡ rising router_cmp (before ++ filter_map live_router (map (λ lsa. lsa.now) l.yielded))
