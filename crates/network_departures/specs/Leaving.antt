-- The transit networks that a router leaves, and the routers that stay on each (RFC 2328, 12.4.1.2, 12.4.2).
use Rattle.std.specs.Prelude.{ℕ, ◌==◌, ◌&&◌, ◌||◌, not, nat_le, Bool, true, false, is_some, List, length, filter, map, Option, None}
use Rattle.std.specs.List.{find}
use Rattle.std.specs.Option.{option_map_or}
use Rattle.lsa_codec.specs.declared.address.Addr.{Addr}
use Rattle.lsa_codec.specs.declared.address.AreaId.{AreaId}
use Rattle.lsa_codec.specs.declared.address.RouterId.{RouterId}
use Rattle.lsa_codec.specs.declared.link.Link.{Link}
use Rattle.lsa_codec.specs.Fields.{advertising_router_of, link_state_id_of}
use Rattle.lsa_codec.specs.Links.{links_of}
use Rattle.lsa_codec.specs.Making.{leads_to_net}
use Rattle.lsa_codec.specs.Prefix.{Net}
use Rattle.lsa_codec.specs.Views.{net_of_lsa}
use Rattle.lsdb.specs.declared.section.Section.TheVariants.{Area}
use Rattle.lsdb.specs.Lists.{Lists, lsas_of}
use Rattle.area_graph.specs.Area.{is_live, is_network_lsa}
use Rattle.interfaces.specs.declared.networks.Member.{Member}
use Rattle.interfaces.specs.Networks.{members_of}
use Rattle.interfaces.specs.Routers.{router_lsa_of}
use Rattle.network_departures.specs.declared.departure.Departure.{Departure}
use Rattle.network_departures.specs.declared.departure.Departure.TheVariants.{LeavesNetwork, Fails}

-- ---- departures

-- the router that goes
abbrev pub router_of : Departure → RouterId
router_of (LeavesNetwork router net) = router
router_of (Fails router) = router

-- it fails, and does not only leave a network
abbrev pub fails : Departure → Bool
fails (LeavesNetwork router net) = false
fails (Fails router) = true

-- ---- routers on networks

-- the Link State ID of a network-LSA: the address of the Designated Router (12.1.4)
abbrev pub address_of : List ℕ → Addr
address_of network = record { 0 = link_state_id_of network }

-- a router is the Designated Router of a network: it originated the network-LSA (12.4.2)
abbrev pub is_designated : RouterId → List ℕ → Bool
is_designated router network = advertising_router_of network == router.0

-- the first link of a router to a network, in its router-LSA (12.4.1.2)
abbrev pub link_on : Lists → AreaId → Addr → RouterId → Option Link
link_on db area address router = option_map_or (λ lsa. find (leads_to_net address) (links_of lsa)) (router_lsa_of db area router) None

-- a router is on a network: it is the Designated Router, or has a link to it
abbrev pub is_on : Lists → AreaId → RouterId → List ℕ → Bool
is_on db area router network = is_designated router network || is_some (link_on db area (address_of network) router)

-- ---- networks that are left

abbrev pub same_net : Net → Net → Bool
same_net one other = (one.addr.0 == other.addr.0) && (one.len == other.len)

-- a departure is one from networks of this prefix: a router that fails leaves all of its networks
abbrev pub is_from : Departure → Net → Bool
is_from (LeavesNetwork router net) left = same_net left net
is_from (Fails router) left = true

-- a live network-LSA of a network that the router is on, and leaves
abbrev pub is_left : Lists → Departure → AreaId → List ℕ → Bool
is_left db event area lsa =
    (is_network_lsa lsa && is_live lsa) && (is_from event (net_of_lsa lsa) && is_on db area (router_of event) lsa)

-- those of an area
abbrev pub networks_left : Lists → Departure → AreaId → List (List ℕ)
networks_left db event area = filter (is_left db event area) (lsas_of (Area area) db)

-- ---- routers that stay

-- a router stays on a network where it has a link to it, and is not the one that leaves
abbrev pub stays : RouterId → Member → Bool
stays gone member = member.is_joined && not (member.router.0 == gone.0)

-- the routers that stay, of those that the network-LSA lists (12.4.2)
abbrev pub staying : Lists → AreaId → RouterId → List ℕ → List RouterId
staying db area gone network = map (λ member. member.router) (filter (stays gone) (members_of db area network))

-- a network with two routers or more is a transit network; one with a single router is a stub network of it (12.4.1.2)
abbrev pub is_transit_still : List RouterId → Bool
is_transit_still routers = nat_le 2 (length routers)
