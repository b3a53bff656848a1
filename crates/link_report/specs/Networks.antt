-- What is said of each transit network, by its network-LSA in use (RFC 2328, 12.4.2 and 16.1).
use Rattle.std.specs.Prelude.{ℕ, if◌then◌else◌, List, [], ◌∷◌, map, filter, not, Option, Some, None}
use Rattle.std.specs.List.{filter_map, flat_map}
use Rattle.std.specs.Ordering.{nat_cmp, ordering_then}
use Rattle.std.specs.declared.cmp.Ordering.{Ordering}
use Rattle.lsa_codec.specs.declared.address.AreaId.{AreaId}
use Rattle.lsa_codec.specs.declared.address.RouterId.{RouterId}
use Rattle.lsa_codec.specs.Fields.{advertising_router_of, link_state_id_of}
use Rattle.lsa_codec.specs.Order.{prefix_cmp, router_cmp}
use Rattle.lsa_codec.specs.Views.{net_of_lsa}
use Rattle.lsdb.specs.Lists.{Lists}
use Rattle.area_graph.specs.Area.{is_network_lsa}
use Rattle.area_graph.specs.Rising.{rising}
use Rattle.interfaces.specs.declared.networks.Member.{Member}
use Rattle.interfaces.specs.Networks.{members_of, network_lsa_in}
use Rattle.link_report.specs.declared.network_line.NetworkPlace.{NetworkPlace}
use Rattle.link_report.specs.Areas.{UsedAreaValue, used_areas}

-- a network: its area, its prefix and the address of its Designated Router, that router, the routers that are listed and have a link
-- to the network, and the others that are listed
pub record NetworkValue : Type 0 where
  pub area : AreaId
  pub place : NetworkPlace
  pub router : RouterId
  pub members : List RouterId
  pub one_way : List RouterId

-- the prefix and the Link State ID of a network-LSA
abbrev pub network_place : List ℕ → Option NetworkPlace
network_place lsa = if is_network_lsa lsa then Some (record { net = net_of_lsa lsa; address = record { 0 = link_state_id_of lsa } }) else None

-- by prefix, then by Link State ID
abbrev pub network_cmp : NetworkPlace → NetworkPlace → Ordering
network_cmp a b = ordering_then (prefix_cmp a.net b.net) (nat_cmp a.address.0 b.address.0)

-- the members that have a link to the network
abbrev pub joined : List Member → List RouterId
joined members = map (λ member. member.router) (filter (λ member. member.is_joined) members)

-- the members that have none
abbrev pub not_joined : List Member → List RouterId
not_joined members = map (λ member. member.router) (filter (λ member. not member.is_joined) members)

-- the network of a network-LSA
abbrev pub network_value : UsedAreaValue → NetworkPlace → List ℕ → NetworkValue
network_value area place lsa = record {
  area = area.area;
  place = place;
  router = record { 0 = advertising_router_of lsa };
  members = rising router_cmp (joined (members_of area.db area.area lsa));
  one_way = rising router_cmp (not_joined (members_of area.db area.area lsa));
}

-- the network at a place, if it has a network-LSA in use
abbrev pub network_by : UsedAreaValue → NetworkPlace → Option (List ℕ) → List NetworkValue
network_by area place None = []
network_by area place (Some lsa) = network_value area place lsa ∷ []

abbrev pub network_in : UsedAreaValue → NetworkPlace → List NetworkValue
network_in area place = network_by area place (network_lsa_in area.lsas place.address)

-- the networks of an area, by prefix and Link State ID
abbrev pub networks_in : UsedAreaValue → List NetworkValue
networks_in area = flat_map (network_in area) (rising network_cmp (filter_map network_place area.lsas))

-- those of all areas
abbrev pub network_values : Lists → List NetworkValue
network_values db = flat_map networks_in (used_areas db)
