-- `duplicate-address`: interface addresses of several routers (RFC 2328, A.4.2).
use Rattle.std.specs.Prelude.{Bool, ◌&&◌, nat_le, List, map, filter}
use Rattle.std.specs.List.{flat_map}
use Rattle.lsa_codec.specs.declared.address.Addr.{Addr}
use Rattle.lsa_codec.specs.declared.address.RouterId.{RouterId}
use Rattle.lsa_codec.specs.declared.link.Link.{Link}
use Rattle.lsa_codec.specs.Links.{has_cost}
use Rattle.lsdb.specs.Lists.{Lists}
use Rattle.area_graph.specs.Rising.{rising}
use Rattle.audit_places.specs.Places.{PlaceValue, shared_address}
use Rattle.audit_areas.specs.Areas.{AreaValue, audited_areas, routers_in}
use Rattle.audit_areas.specs.Groups.{several}
use Rattle.audit_links.specs.Links.{links_in}
use Rattle.audit_links.specs.Neighbors.{AtAddress, at_address_cmp, same_address}

-- the Link Data of a link of type 1 or 2 is an address from 1.0.0.0 on; lesser numbers are the indices of unnumbered interfaces
abbrev pub is_addressed : Link → Bool
is_addressed link = has_cost link.kind && nat_le 0x1000000 link.link_data.0

-- the Link Data of a link of a router
abbrev pub address_over : RouterId → Link → AtAddress
address_over router link = (link.link_data, router)

-- the addresses of a router with these links
abbrev pub addresses_over : RouterId → List Link → List AtAddress
addresses_over router links = map (address_over router) (filter is_addressed links)

-- those of a router in an area
abbrev pub addresses_of : AreaValue → RouterId → List AtAddress
addresses_of area router = addresses_over router (links_in area router)

-- those of all routers of an area
abbrev pub addresses_in : AreaValue → List AtAddress
addresses_in area = flat_map (addresses_of area) (routers_in area)

-- those of all areas, by address and router, each once
abbrev pub addresses : Lists → List AtAddress
addresses db = rising at_address_cmp (flat_map addresses_in (audited_areas db))

abbrev pub place_of_address : Addr × List RouterId → PlaceValue
place_of_address group = shared_address group.0 group.1

-- the addresses that several routers have
abbrev pub duplicate_address_places : Lists → List PlaceValue
duplicate_address_places db = map place_of_address (several same_address (addresses db))
