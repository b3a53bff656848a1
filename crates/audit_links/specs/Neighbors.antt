-- `point-to-multipoint`: interfaces with links to several neighbors (RFC 2328, 12.4.1.4).
use Rattle.std.specs.Prelude.{Bool, ◌==◌, ◌&&◌, if◌then◌else◌, List, map, Option, None, Some}
use Rattle.std.specs.List.{filter_map}
use Rattle.std.specs.Ordering.{nat_cmp, ordering_then}
use Rattle.std.specs.declared.cmp.Ordering.{Ordering}
use Rattle.lsa_codec.specs.declared.address.Addr.{Addr}
use Rattle.lsa_codec.specs.declared.address.AreaId.{AreaId}
use Rattle.lsa_codec.specs.declared.address.RouterId.{RouterId}
use Rattle.lsa_codec.specs.declared.link.Link.{Link}
use Rattle.lsa_codec.specs.Links.{is_point_to_point}
use Rattle.lsa_codec.specs.Order.{router_cmp}
use Rattle.area_graph.specs.declared.vertex.Vertex.{Vertex}
use Rattle.area_graph.specs.declared.vertex.Vertex.TheVariants.{Router}
use Rattle.area_graph.specs.Rising.{rising}
use Rattle.audit_places.specs.Places.{PlaceValue, several_neighbors}
use Rattle.audit_areas.specs.Areas.{AreaValue}
use Rattle.audit_areas.specs.Groups.{several}
use Rattle.audit_links.specs.Links.{leads_from, links_in}

-- an address, and a router at it, or over the interface with it
abbrev pub AtAddress : Type 0
AtAddress = Addr × RouterId

-- by address, then by router
abbrev pub at_address_cmp : AtAddress → AtAddress → Ordering
at_address_cmp a b = ordering_then (nat_cmp a.0.0 b.0.0) (router_cmp a.1 b.1)

abbrev pub same_address : Addr → Addr → Bool
same_address a b = a.0 == b.0

-- the router at the other end of a link of type 1
abbrev pub neighbor_of : Link → RouterId
neighbor_of link = record { 0 = link.id.0 }

-- a link is of type 1, and an edge leads to its other end
abbrev pub leads_to_neighbor : (Vertex → Bool) → Link → Bool
leads_to_neighbor leads link = is_point_to_point link.kind && leads (Router (neighbor_of link))

-- the neighbor over such a link, with the address of the interface
abbrev pub at_link : Link → AtAddress
at_link link = (link.link_data, neighbor_of link)

abbrev pub neighbor_over : (Vertex → Bool) → Link → Option AtAddress
neighbor_over leads link = if leads_to_neighbor leads link then Some (at_link link) else None

-- the neighbors over links of type 1, by address
abbrev pub neighbors_of : AreaValue → RouterId → List AtAddress
neighbors_of area router = rising at_address_cmp (filter_map (neighbor_over (leads_from area (Router router))) (links_in area router))

abbrev pub place_of_interface : AreaId → RouterId → Addr × List RouterId → PlaceValue
place_of_interface area router group = several_neighbors area router group.0 group.1

-- the interfaces of a router with several neighbors, by address
abbrev pub interfaces_with_several : AreaValue → RouterId → List PlaceValue
interfaces_with_several area router =
    map (place_of_interface area.area router) (several same_address (neighbors_of area router))
