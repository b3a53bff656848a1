-- Transit networks: the network-LSA in use of each (RFC 2328, 16.1), and the routers that it lists (12.4.2).
use Rattle.std.specs.Prelude.{ℕ, Bool, false, ◌==◌, if◌then◌else◌, List, [], map, Option}
use Rattle.std.specs.List.{find, list_any}
use Rattle.std.specs.Option.{option_map_or}
use Rattle.lsa_codec.specs.declared.address.Addr.{Addr}
use Rattle.lsa_codec.specs.declared.address.AreaId.{AreaId}
use Rattle.lsa_codec.specs.declared.address.RouterId.{RouterId}
use Rattle.lsa_codec.specs.Fields.{link_state_id_of}
use Rattle.lsa_codec.specs.Links.{links_of}
use Rattle.lsa_codec.specs.Making.{leads_to_net}
use Rattle.lsa_codec.specs.Views.{attached_of}
use Rattle.lsdb.specs.Lists.{Lists, is_network}
use Rattle.area_graph.specs.Area.{is_network_lsa}
use Rattle.interfaces.specs.declared.networks.Member.{Member}
use Rattle.interfaces.specs.Routers.{router_lsa_of}

-- the network-LSA of a network, among the LSAs in use of an area: its Link State ID is the address of the Designated Router
-- (12.1.4)
abbrev pub network_lsa_in : List (List ℕ) → Addr → Option (List ℕ)
network_lsa_in used network = find (is_network network) used

-- a network-LSA lists a router as attached (A.4.3)
abbrev pub lists_router : List ℕ → RouterId → Bool
lists_router lsa router = list_any (λ listed. listed.0 == router.0) (attached_of lsa)

-- the router-LSA of a router in an area has a link to a network (12.4.1.2)
abbrev pub joins : Lists → AreaId → Addr → RouterId → Bool
joins db area network router = option_map_or (λ lsa. list_any (leads_to_net network) (links_of lsa)) (router_lsa_of db area router) false

-- a router, and whether it has a link to a network
abbrev pub member : Lists → AreaId → Addr → RouterId → Member
member db area network router = record { router = router; is_joined = joins db area network router }

-- the routers that a network-LSA lists, in its order, each with whether it has a link to the network; other LSAs list none
abbrev pub members_of : Lists → AreaId → List ℕ → List Member
members_of db area lsa =
    if is_network_lsa lsa then map (member db area (record { 0 = link_state_id_of lsa })) (attached_of lsa) else []
