-- The links that a way leads over, and the interfaces at their other ends (RFC 2328, 12.4.1.1 and 16.1).
use Rattle.std.specs.Prelude.{ℕ, Bool, false, ◌&&◌, ◌==◌, List, [], ◌∷◌, filter, map, slice_get, unwrap_or}
use Rattle.std.specs.List.{flat_map}
use Rattle.std.specs.Option.{option_map_or}
use Rattle.std.specs.Ordering.{nat_cmp}
use Rattle.lsa_codec.specs.Links.{is_transit}
use Rattle.lsa_codec.specs.Making.{leads_to}
use Rattle.lsa_codec.specs.declared.address.Addr.{Addr}
use Rattle.lsa_codec.specs.declared.address.AreaId.{AreaId}
use Rattle.lsa_codec.specs.declared.address.RouterId.{RouterId}
use Rattle.lsdb.specs.declared.section.Section.TheVariants.{Area}
use Rattle.lsdb.specs.Lists.{AreaHead, Lists, areas_of, lsas_of}
use Rattle.area_graph.specs.Area.{used}
use Rattle.area_graph.specs.Rising.{rising}
use Rattle.interfaces.specs.declared.interface.Interface.{Interface}
use Rattle.interfaces.specs.FarEnds.{addrs_of, far_ends_in}
use Rattle.interfaces.specs.Networks.{lists_router, network_lsa_in}
use Rattle.interfaces.specs.Routers.{interfaces_in}
use Rattle.route_report.specs.declared.sought.Leg.{Leg}
use Rattle.route_report.specs.declared.sought.Side.{Side}
use Rattle.route_report.specs.declared.sought.Side.TheVariants.{Near, Far}
use Rattle.route_report.specs.declared.sought.Sought.{Sought}
use Rattle.route_report.specs.declared.sought.Sought.TheVariants.{Ends, Nets}

-- the link leads over the interface of a leg to its neighbor
abbrev pub leads_over : Leg → Interface → Bool
leads_over leg own = leads_to leg.neighbor own.link && (own.link.link_data.0 == leg.interface.0)

abbrev pub links_over : Lists → Leg → AreaId → List Interface
links_over db leg area = filter (leads_over leg) (interfaces_in db area leg.router)

-- the interface of a link, if the neighbor links back, so that the link is an edge
abbrev pub near_end : Interface → List Interface → List Interface
near_end own [] = []
near_end own (end ∷ ends) = own ∷ []

-- the interfaces on a side of a link of a router
abbrev pub ends_on : Lists → Side → RouterId → AreaId → Interface → List Interface
ends_on db Near router area own = near_end own (far_ends_in db area router own)
ends_on db Far router area own = far_ends_in db area router own

-- the network-LSA of a network, among those in use, lists the router
abbrev pub is_listed : List (List ℕ) → Addr → RouterId → Bool
is_listed lsas network router = option_map_or (λ lsa. lists_router lsa router) (network_lsa_in lsas network) false

-- the link leads over this interface to a transit network that lists the router, so that it is an edge
abbrev pub is_net_over : List (List ℕ) → RouterId → Addr → Interface → Bool
is_net_over lsas router interface own = (own.link.link_data.0 == interface.0) && (is_transit own.link.kind && is_listed lsas own.link.id router)

-- what is sought in an area: the interfaces on a side of the links of a leg, or links to transit networks
abbrev pub sought_in : Lists → Sought → AreaId → List Interface
sought_in db (Ends leg side) area = flat_map (ends_on db side leg.router area) (links_over db leg area)
sought_in db (Nets router interface) area = filter (is_net_over (used (lsas_of (Area area) db)) router interface) (interfaces_in db area router)

abbrev pub id_of : AreaHead → AreaId
id_of area = record { 0 = area.id }

-- the same in all areas
abbrev pub sought : Lists → Sought → List Interface
sought db what = flat_map (λ area. sought_in db what (id_of area)) (areas_of db)

-- the addresses at the other ends of the links of a leg, each once, in rising order
abbrev pub far_addresses : Lists → Leg → List Addr
far_addresses db leg = addrs_of (sought db (Ends leg Far))

-- the least cost of links; 0 where there is none
abbrev pub least_cost : List Interface → ℕ
least_cost links = unwrap_or (slice_get (rising nat_cmp (map (λ own. own.link.metric) links)) 0) 0
