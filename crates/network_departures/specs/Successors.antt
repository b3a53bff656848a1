-- The Designated Router of a network that a router has left, and the network-LSA that it originates (RFC 2328, 9.4, 12.4.2).
use Rattle.std.specs.Prelude.{ℕ, not, nat_le, Bool, List, Option, Some, None, option_map, if◌then◌else◌}
use Rattle.std.specs.List.{find, list_all}
use Rattle.lsa_codec.specs.declared.address.Addr.{Addr}
use Rattle.lsa_codec.specs.declared.address.AreaId.{AreaId}
use Rattle.lsa_codec.specs.declared.address.RouterId.{RouterId}
use Rattle.lsdb.specs.Lists.{Lists}
use Rattle.lsdb.specs.Slots.{Slot}
use Rattle.lsa_remaking.specs.Networks.{succeeding, with_routers}
use Rattle.network_departures.specs.declared.successor.Successor.{Successor}
use Rattle.network_departures.specs.Leaving.{address_of, is_designated, link_on, staying, is_transit_still}

-- no router has a greater Router ID
abbrev pub is_greatest : List RouterId → RouterId → Bool
is_greatest routers router = list_all (λ other. nat_le other.0 router.0) routers

-- the router with the greatest Router ID: it is elected where all have one priority and none is Backup (9.4)
abbrev pub greatest : List RouterId → Option RouterId
greatest routers = find (is_greatest routers) routers

-- a router that takes over, with its address on the network, the Link Data of its link there (A.4.2)
abbrev pub successor_from : Lists → AreaId → Addr → Option RouterId → Option Successor
successor_from db area address None = None
successor_from db area address (Some router) =
    option_map (λ link. record { router = router; address = link.link_data }) (link_on db area address router)

-- the one of the routers that stay that takes over
abbrev pub successor_on : Lists → AreaId → List ℕ → List RouterId → Option Successor
successor_on db area network routers = successor_from db area (address_of network) (greatest routers)

-- the network-LSA of a successor, where there is one
abbrev pub succeeded : List RouterId → List ℕ → Option Successor → Slot
succeeded routers network None = None
succeeded routers network (Some next) = Some (succeeding next.router next.address routers network)

-- the network-LSA of a transit network with these routers, once a router is gone: where it was the Designated Router, that of its
-- successor; else the same with these routers (12.4.2)
abbrev pub redesignated : Lists → AreaId → RouterId → List ℕ → List RouterId → Slot
redesignated db area gone network routers =
    if is_designated gone network then succeeded routers network (successor_on db area network routers) else Some (with_routers routers network)

-- the network-LSA of a network once a router has left: none where it is no transit network any more
abbrev pub network_after : Lists → AreaId → RouterId → List ℕ → Slot
network_after db area gone network =
    let routers = staying db area gone network in
    if is_transit_still routers then redesignated db area gone network routers else None
