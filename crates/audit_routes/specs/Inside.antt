-- The prefixes that some router has a route inside the AS to (RFC 2328, 11).
use Rattle.std.specs.Prelude.{List}
use Rattle.std.specs.List.{flat_map}
use Rattle.lsa_codec.specs.Order.{prefix_cmp}
use Rattle.lsa_codec.specs.Prefix.{Net}
use Rattle.lsa_codec.specs.declared.address.RouterId.{RouterId}
use Rattle.lsdb.specs.Lists.{Lists}
use Rattle.area_graph.specs.Rising.{rising}
use Rattle.best_ways.specs.Routes.{nets}
use Rattle.routing_table.specs.Routers.{attached_routers}
use Rattle.summary_metrics.specs.Refreshed.{routes_inside}

-- the prefixes of the intra-area and inter-area routes of a router
abbrev pub inside_nets : Lists → RouterId → List Net
inside_nets db router = nets (routes_inside db router)

-- the prefixes that some attached router has such a route to, in order
abbrev pub reached_nets : Lists → List Net
reached_nets db = rising prefix_cmp (flat_map (inside_nets db) (attached_routers db))
