-- The ways of a route: where each of its next hops leads (RFC 2328, 11 and 16.1.1).
use Rattle.std.specs.Prelude.{◌∷◌, [], Bool, true, false, if◌then◌else◌, List, map, Option, None, Some}
use Rattle.std.specs.List.{filter_map, flat_map}
use Rattle.lsa_codec.specs.Prefix.{Net}
use Rattle.lsa_codec.specs.declared.address.Addr.{Addr}
use Rattle.lsa_codec.specs.declared.address.RouterId.{RouterId}
use Rattle.lsdb.specs.Lists.{Lists}
use Rattle.next_hops.specs.declared.hop.Hop.{Hop}
use Rattle.next_hops.specs.declared.hop.Hop.TheVariants.{Connected, Link, Attached, Gateway}
use Rattle.best_ways.specs.Values.{RouteValue}
use Rattle.best_ways.specs.declared.rank.PathType.{PathType}
use Rattle.best_ways.specs.declared.rank.PathType.TheVariants.{Intra, Inter, Ext1, Ext2}
use Rattle.first_ends.specs.FirstEnds.{route_ends}
use Rattle.hop_ends.specs.declared.way.Way.{Way}
use Rattle.hop_ends.specs.declared.way.Way.TheVariants.{Via, Direct, Exit}
use Rattle.hop_ends.specs.Owners.{far_ends, owners}

abbrev pub is_external : PathType → Bool
is_external Intra = false
is_external Inter = false
is_external Ext1 = true
is_external Ext2 = true

-- to a stub network of the router itself, or to a forwarding address on one
abbrev pub connected_way : PathType → Way
connected_way kind = if is_external kind then Exit Connected else Direct Connected

-- to each of these routers
abbrev pub ways_via : Hop → List RouterId → List Way
ways_via hop routers = map (λ router. Via hop router) routers

-- to each of the routers with an address; where there are none, that is a forwarding address outside
abbrev pub ways_to_owners : Hop → List RouterId → List Way
ways_to_owners hop [] = Exit hop ∷ []
ways_to_owners hop (router ∷ routers) = ways_via hop (router ∷ routers)

-- of the far ends of an interface, where there are two or more, those with whose link a path of least cost begins
abbrev pub taken : List RouterId → List RouterId → List RouterId
taken [] ends = []
taken (one ∷ []) ends = one ∷ []
taken (one ∷ two ∷ more) ends = ends

-- the neighbors to which a router's route to a prefix leads over the links of an interface: where links of several neighbors have
-- this Link Data, those with whose link a path of least cost to a target of the route begins
abbrev pub ends_over : Lists → RouterId → Net → Addr → List RouterId
ends_over db router net interface = taken (far_ends db router interface) (route_ends (record { db = db; router = router }) net interface)

-- where a hop of a router's route to a prefix leads
abbrev pub ways_over : Lists → RouterId → Net → PathType → Hop → List Way
ways_over db router net kind Connected = connected_way kind ∷ []
ways_over db router net kind (Link interface) = ways_via (Link interface) (ends_over db router net interface)
ways_over db router net kind (Attached interface) = Direct (Attached interface) ∷ []
ways_over db router net kind (Gateway interface address) = ways_to_owners (Gateway interface address) (owners db router interface address)

-- where the hops of a router's route lead, in their order
abbrev pub ways_of : Lists → RouterId → RouteValue → List Way
ways_of db router route = flat_map (ways_over db router route.net route.kind) route.hops

-- the router that a way leads to
abbrev pub router_over : Way → Option RouterId
router_over (Via hop router) = Some router
router_over (Direct hop) = None
router_over (Exit hop) = None

abbrev pub routers_over : List Way → List RouterId
routers_over ways = filter_map router_over ways

-- a way to a network of the router itself
abbrev pub is_direct : Way → Bool
is_direct (Via hop router) = false
is_direct (Direct hop) = true
is_direct (Exit hop) = false

-- a way out of the network
abbrev pub is_exit : Way → Bool
is_exit (Via hop router) = false
is_exit (Direct hop) = false
is_exit (Exit hop) = true
