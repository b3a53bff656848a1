use Rattle.std.proofs.Common.{◌≡◌, ◌++◌, take}
use Rattle.lsa_codec.specs.Order.{router_cmp}
use Rattle.area_graph.specs.Rising.{rising}
use Rattle.forwarding.proofs.reached.visit.Given as goal

-- the routers so far were added to both
abbrev pub invariant-loop-router : goal.invariant-loop-router
invariant-loop-router g l = record {
  reached : l.reached.items ≡ l.initial.reached.items ++ take l.router-index l.level;
  seen : l.initial.seen.keys ≡ rising router_cmp l.initial.reached.items → l.seen.keys ≡ rising router_cmp l.reached.items;
}
