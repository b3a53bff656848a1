-- `several-networks`: prefixes of several transit networks in use (RFC 2328, 12.4.2 and 16.1).
use Rattle.std.specs.Prelude.{ℕ, Bool, ◌==◌, ◌&&◌, ◌||◌, if◌then◌else◌, List, map, Option, None, Some}
use Rattle.std.specs.List.{filter_map, flat_map, list_any}
use Rattle.std.specs.Ordering.{nat_cmp, ordering_then}
use Rattle.std.specs.declared.cmp.Ordering.{Ordering}
use Rattle.lsa_codec.specs.declared.address.Addr.{Addr}
use Rattle.lsa_codec.specs.declared.address.AreaId.{AreaId}
use Rattle.lsa_codec.specs.Fields.{link_state_id_of}
use Rattle.lsa_codec.specs.Order.{area_cmp, prefix_cmp}
use Rattle.lsa_codec.specs.Prefix.{Net}
use Rattle.lsa_codec.specs.Views.{net_of_lsa}
use Rattle.lsdb.specs.Lists.{Lists}
use Rattle.area_graph.specs.declared.vertex.Vertex.{Vertex}
use Rattle.area_graph.specs.declared.vertex.Vertex.TheVariants.{Network}
use Rattle.area_graph.specs.Area.{is_network_lsa, used}
use Rattle.area_graph.specs.Rising.{rising}
use Rattle.audit_places.specs.Places.{PlaceValue, several_networks}
use Rattle.audit_areas.specs.Areas.{AreaValue, audited_areas, edges_in, has_end, is_other, lsas_in}
use Rattle.audit_areas.specs.Groups.{several}

-- ---- networks in use

-- an edge in one of the areas leads out of a router to another vertex than a network
abbrev pub leads_elsewhere_in : Vertex → Vertex → AreaValue → Bool
leads_elsewhere_in router network area = has_end (edges_in area) router (is_other network)

abbrev pub leads_elsewhere : List AreaValue → Vertex → Vertex → Bool
leads_elsewhere areas network router = list_any (leads_elsewhere_in router network) areas

-- a network has edges to several routers, or to one that has an edge elsewhere: what is left of a Designated Router that is down
-- is not in use
abbrev pub is_in_use : List AreaValue → AreaValue → Vertex → Bool
is_in_use areas area network =
    has_end (edges_in area) network (λ router. has_end (edges_in area) network (is_other router) || leads_elsewhere areas network router)

-- ---- prefixes

-- a prefix, an area, and the Link State ID of a network with the prefix there
abbrev pub OfPrefix : Type 0
OfPrefix = Net × (AreaId × Addr)

-- by prefix, then by area and Link State ID
abbrev pub of_prefix_cmp : OfPrefix → OfPrefix → Ordering
of_prefix_cmp a b = ordering_then (prefix_cmp a.0 b.0) (ordering_then (area_cmp a.1.0 b.1.0) (nat_cmp a.1.1.0 b.1.1.0))

abbrev pub same_prefix : Net → Net → Bool
same_prefix a b = (a.addr.0 == b.addr.0) && (a.len == b.len)

abbrev pub address_of : List ℕ → Addr
address_of lsa = record { 0 = link_state_id_of lsa }

-- the network of an area with this prefix and Link State ID
abbrev pub of_prefix : AreaId → Net → Addr → OfPrefix
of_prefix area net address = (net, (area, address))

-- the same, if it is in use
abbrev pub network_if_in_use : List AreaValue → AreaValue → Net → Addr → Option OfPrefix
network_if_in_use areas area net address = if is_in_use areas area (Network address) then Some (of_prefix area.area net address) else None

-- that of an LSA in use, if it is a network-LSA
abbrev pub network_in_use : List AreaValue → AreaValue → List ℕ → Option OfPrefix
network_in_use areas area lsa = if is_network_lsa lsa then network_if_in_use areas area (net_of_lsa lsa) (address_of lsa) else None

abbrev pub networks_in : List AreaValue → AreaValue → List OfPrefix
networks_in areas area = filter_map (network_in_use areas area) (used (lsas_in area))

-- the networks in use of all areas, by prefix, area and Link State ID
abbrev pub networks : List AreaValue → List OfPrefix
networks areas = rising of_prefix_cmp (flat_map (networks_in areas) areas)

abbrev pub place_of_prefix : Net × List (AreaId × Addr) → PlaceValue
place_of_prefix group = several_networks group.0 (map (λ network. network.1) group.1)

-- the prefixes of several of them, in rising order
abbrev pub several_networks_places : Lists → List PlaceValue
several_networks_places db = map place_of_prefix (several same_prefix (networks (audited_areas db)))
