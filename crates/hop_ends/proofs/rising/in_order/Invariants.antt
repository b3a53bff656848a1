use Rattle.std.proofs.Common.{◌≡◌, take}
use Rattle.lsa_codec.specs.Order.{router_cmp}
use Rattle.area_graph.specs.Rising.{rising}
use Rattle.hop_ends.proofs.rising.in_order.Given as goal

-- the routers so far
abbrev pub invariant-loop-router : goal.invariant-loop-router
invariant-loop-router g l = l.found.keys ≡ rising router_cmp (take l.router-index l.routers)
