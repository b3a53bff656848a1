-- What becomes of the links of routers where a router leaves networks, or fails (RFC 2328, 12.4.1).
use Rattle.std.specs.Prelude.{ℕ, ◌==◌, ◌&&◌, ◌||◌, Bool, true, false, List, Option, Some, None, if◌then◌else◌}
use Rattle.std.specs.List.{find, list_any}
use Rattle.lsa_codec.specs.declared.address.Addr.{Addr}
use Rattle.lsa_codec.specs.declared.address.AreaId.{AreaId}
use Rattle.lsa_codec.specs.declared.address.RouterId.{RouterId}
use Rattle.lsa_codec.specs.declared.link.Link.{Link}
use Rattle.lsa_codec.specs.declared.link.LinkKind.{LinkKind}
use Rattle.lsa_codec.specs.declared.link.LinkKind.TheVariants.{PointToPoint, Transit, Stub, Virtual, Other}
use Rattle.lsa_codec.specs.Fields.{mask_of}
use Rattle.lsa_codec.specs.Making.{leads_to_net}
use Rattle.lsa_codec.specs.Views.{net_of_lsa}
use Rattle.lsdb.specs.Lists.{Lists}
use Rattle.lsa_remaking.specs.declared.link_change.LinkChange.{LinkChange}
use Rattle.lsa_remaking.specs.declared.link_change.LinkChange.TheVariants.{Stays, Removed, LeadsTo, StubOf}
use Rattle.lsa_remaking.specs.declared.link_change.ChangedLink.{ChangedLink}
use Rattle.lsa_remaking.specs.Relinking.{changed_links}
use Rattle.network_departures.specs.declared.departure.Departure.{Departure}
use Rattle.network_departures.specs.declared.successor.Successor.{Successor}
use Rattle.network_departures.specs.Leaving.{router_of, fails, address_of, is_designated, staying, is_transit_still}
use Rattle.network_departures.specs.Successors.{successor_on}

-- ---- links to a network that a router leaves

-- a link to a network of which the Designated Router is gone: its Link ID is the address of the successor (A.4.2)
abbrev pub to_successor : Option Successor → LinkChange
to_successor None = Stays
to_successor (Some next) = LeadsTo next.address

-- the stub link of a network on which one router is left: the network's number and mask (12.4.1.2)
abbrev pub stub_of : List ℕ → LinkChange
stub_of network = StubOf (net_of_lsa network).addr (mask_of network)

-- the link of a router that stays on the network
abbrev pub link_of_staying : Lists → AreaId → RouterId → List ℕ → List RouterId → LinkChange
link_of_staying db area gone network routers =
    if is_transit_still routers then (if is_designated gone network then to_successor (successor_on db area network routers) else Stays)
    else stub_of network

-- the link of a router to the network: that of the router that leaves is removed, and those of others that do not stay are kept
abbrev pub link_to_left : Lists → AreaId → RouterId → List ℕ → RouterId → LinkChange
link_to_left db area gone network router =
    let routers = staying db area gone network in
    if router.0 == gone.0 then Removed else
    if list_any (λ other. other.0 == router.0) routers then link_of_staying db area gone network routers else Stays

-- ---- all links

-- links of these kinds lead to a router: point-to-point and virtual ones (A.4.2)
abbrev pub is_to_router : LinkKind → Bool
is_to_router PointToPoint = true
is_to_router Transit = false
is_to_router Stub = false
is_to_router Virtual = true
is_to_router (Other kind) = false

-- a link leads to the router that fails: there is no adjacency any more (12.4.1.1, 12.4.1.3)
abbrev pub is_to_failed : Departure → Link → Bool
is_to_failed event link = fails event && (is_to_router link.kind && (link.id.0 == (router_of event).0))

-- a link of a router to the network that it leads to among some, if there is one
abbrev pub link_by_network : Lists → AreaId → RouterId → RouterId → Option (List ℕ) → LinkChange
link_by_network db area gone router None = Stays
link_by_network db area gone router (Some network) = link_to_left db area gone network router

-- what becomes of a link of a router, where these are the networks that are left
abbrev pub link_after : Lists → Departure → AreaId → List (List ℕ) → RouterId → Link → LinkChange
link_after db event area networks router link =
    if is_to_failed event link then Removed else
    link_by_network db area (router_of event) router (find (λ network. leads_to_net (address_of network) link) networks)

-- each link of the router-LSA of a router, with what becomes of it
abbrev pub links_after : Lists → Departure → AreaId → List (List ℕ) → RouterId → List ℕ → List ChangedLink
links_after db event area networks router lsa = changed_links (link_after db event area networks router) lsa
