-- The next hops that lead to other routers than they did: over a link that ends elsewhere, or to an address that another
-- router has.
use Rattle.std.specs.Prelude.{Bool, ◌==◌, not, List, flat_map}
use Rattle.std.specs.Cmp.Lexicographic.{pointwise}
use Rattle.std.specs.List.{filter}
use Rattle.lsa_codec.specs.declared.address.RouterId.{RouterId}
use Rattle.lsdb.specs.Lists.{Lists}
use Rattle.area_graph.specs.Rising.{rising}
use Rattle.next_hops.specs.Hop.{hop_cmp}
use Rattle.next_hops.specs.declared.hop.Hop.{Hop}
use Rattle.best_ways.specs.Values.{RouteValue}
use Rattle.forwarding.specs.Matches.{RouterValue}
use Rattle.hop_ends.specs.Owners.{targets_of}
use Rattle.comparison.specs.Compared.{Compared}

abbrev pub same_router : RouterId → RouterId → Bool
same_router a b = a.0 == b.0

abbrev pub is_rerouted : Compared → RouterId → Hop → Bool
is_rerouted c router hop = not (pointwise same_router (targets_of c.baseline router hop) (targets_of c.present router hop))

-- the hops of some routes, in order
abbrev pub hops_of : List RouteValue → List Hop
hops_of routes = rising hop_cmp (flat_map (λ route. route.hops) routes)

-- those of a router that lead to other routers than they did
abbrev pub rerouted : Compared → RouterValue → List Hop
rerouted c r = filter (is_rerouted c r.router) (hops_of r.routes)
