-- What is said of each link of a router-LSA (RFC 2328, 12.4.1 and A.4.2).
use Rattle.std.specs.Prelude.{ℕ, Bool, false, ◌+◌, ◌-◌, ◌==◌, if◌then◌else◌, List, [], ◌∷◌, map, slice_get, Option, Some, None}
use Rattle.std.specs.List.{enumerate_from, flat_map}
use Rattle.std.specs.Option.{option_and_then, option_map}
use Rattle.lsa_codec.specs.declared.address.Addr.{Addr}
use Rattle.lsa_codec.specs.declared.address.AreaId.{AreaId}
use Rattle.lsa_codec.specs.declared.address.RouterId.{RouterId}
use Rattle.lsa_codec.specs.declared.link.Link.{Link}
use Rattle.lsa_codec.specs.Links.{is_transit, stub_net}
use Rattle.lsa_codec.specs.Prefix.{Net}
use Rattle.lsa_codec.specs.Views.{net_of_lsa}
use Rattle.lsdb.specs.Lists.{Lists}
use Rattle.interfaces.specs.declared.interface.Interface.{Interface}
use Rattle.interfaces.specs.FarEnds.{addrs_of, costs_back, far_ends, stub_between}
use Rattle.interfaces.specs.Networks.{lists_router, network_lsa_in}
use Rattle.link_report.specs.declared.ages.Ages.{Ages}
use Rattle.link_report.specs.declared.ages.Ages.TheVariants.{Live, Any}
use Rattle.link_report.specs.declared.link_side.InterfaceStub.{InterfaceStub}
use Rattle.link_report.specs.AnyAge.{interfaces_by}
use Rattle.link_report.specs.Areas.{UsedAreaValue, used_area, used_areas}

-- a link of a router in an area, its number in the router-LSA, the costs back over it, the addresses of its far ends, the prefix of
-- the network that it leads to, the stub link of its interface, and the number of the link whose interface has it as its stub link
pub record LinkValue : Type 0 where
  pub router : RouterId
  pub area : AreaId
  pub number : ℕ
  pub link : Link
  pub back : List ℕ
  pub peers : List Addr
  pub net : Option Net
  pub stub : Option InterfaceStub
  pub owner : Option ℕ

-- ---- networks

-- the network-LSA of the network that a transit link leads to, among the LSAs in use
abbrev pub network_of : List (List ℕ) → Link → Option (List ℕ)
network_of used link = if is_transit link.kind then network_lsa_in used link.id else None

-- a network-LSA is there and lists a router
abbrev pub is_listed : Option (List ℕ) → RouterId → Bool
is_listed None router = false
is_listed (Some lsa) router = lists_router lsa router

-- from a network to a router it costs 0, where the network-LSA lists the router (16.1)
abbrev pub cost_from_network : Option (List ℕ) → RouterId → List ℕ
cost_from_network network router = if is_listed network router then 0 ∷ [] else []

-- the costs back over a link: from the network of a transit link, or of the far ends
abbrev pub back_of : Option (List ℕ) → RouterId → Link → List Interface → List ℕ
back_of network router link ends = if is_transit link.kind then cost_from_network network router else costs_back ends

-- the prefix of a network-LSA, or of a stub link
abbrev pub net_of_link : Option (List ℕ) → Link → Option Net
net_of_link None link = stub_net link
net_of_link (Some lsa) link = Some (net_of_lsa lsa)

-- ---- stub links of interfaces

-- the stub link of an interface that has the interface's own address
abbrev pub own_stub : Interface → Option Link
own_stub own = stub_between own []

-- the same with its number, which is the next
abbrev pub stub_of : ℕ → Interface → Option InterfaceStub
stub_of number own = option_map (λ link. record { number = number + 1; link = link }) (own_stub own)

-- a link's number, where the link after it is the stub link of its interface
abbrev pub owner_of : ℕ → Option Interface → Option ℕ
owner_of number before = option_map (λ _. number) (option_and_then own_stub before)

-- ---- links

-- interface k of a list, counted from 1
abbrev pub interface_numbered : ℕ → List Interface → Option Interface
interface_numbered k all = if k == 0 then None else slice_get all (k - 1)

-- the router at the other end of a link of type 1
abbrev pub neighbor_of : Link → RouterId
neighbor_of link = record { 0 = link.id.0 }

module _ (ages : Ages) (area : UsedAreaValue) (router : RouterId) where
  -- the far ends of an interface
  abbrev pub ends_of : Interface → List Interface
  ends_of own = far_ends router own (interfaces_by ages area.db area.area (neighbor_of own.link))

  -- the link of an interface, where n links stand before it, the last of them that of another one
  abbrev pub link_value : ℕ → Option Interface → Interface → LinkValue
  link_value n before own = record {
    router = router;
    area = area.area;
    number = n + 1;
    link = own.link;
    back = back_of (network_of area.lsas own.link) router own.link (ends_of own);
    peers = addrs_of (ends_of own);
    net = net_of_link (network_of area.lsas own.link) own.link;
    stub = stub_of (n + 1) own;
    owner = owner_of n before;
  }

-- the links of the live router-LSA of a router in an area, in their order, where these are its interfaces
abbrev pub values_of : RouterId → UsedAreaValue → List Interface → List LinkValue
values_of router area all = map (λ one. link_value Live area router one.0 (interface_numbered one.0 all) one.1) (enumerate_from 0 all)

abbrev pub link_values : RouterId → UsedAreaValue → List LinkValue
link_values router area = values_of router area (interfaces_by Live area.db area.area router)

-- the links of a router, by area and number
abbrev pub links_in_areas : List UsedAreaValue → RouterId → List LinkValue
links_in_areas areas router = flat_map (link_values router) areas

-- the links of some routers, by router, area and number
abbrev pub links_of_routers : Lists → List RouterId → List LinkValue
links_of_routers db routers = flat_map (links_in_areas (used_areas db)) routers

-- link k of a router in an area, by router-LSAs of any age
abbrev pub link_at : Lists → AreaId → RouterId → ℕ → Option LinkValue
link_at db area router k =
    let all = interfaces_by Any db area router in
    option_map (link_value Any (used_area db area) router (k - 1) (interface_numbered (k - 1) all)) (interface_numbered k all)
