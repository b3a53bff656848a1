-- The links that describe an interface in its router's LSA, and those of the interfaces between two routers (RFC 2328, 12.4.1.1).
use Rattle.std.specs.Prelude.{ℕ, ◌==◌, ◌&&◌, not, Bool, true, false, nat_le, List, [], ◌∷◌, length, filter, map, option_to_list}
use Rattle.std.specs.List.{flat_map, list_any}
use Rattle.lsa_codec.specs.declared.address.Addr.{Addr}
use Rattle.lsa_codec.specs.declared.address.AreaId.{AreaId}
use Rattle.lsa_codec.specs.declared.address.RouterId.{RouterId}
use Rattle.lsa_codec.specs.declared.link.Link.{Link}
use Rattle.lsa_codec.specs.Links.{has_cost}
use Rattle.lsdb.specs.Lists.{Lists}
use Rattle.interfaces.specs.declared.interface.Interface.{Interface}
use Rattle.interfaces.specs.FarEnds.{far_ends_in, links_back, stub_between}
use Rattle.interfaces.specs.Interfaces.{has_addr}
use Rattle.interfaces.specs.Routers.{interfaces_in}
use Rattle.event_links.specs.declared.link_end.LinkEnd.{LinkEnd}

-- the links of an interface with these far ends: its own, and right after it the stub link of its network, where that has the
-- address of the interface or of a far end
abbrev pub links_of_interface : List Interface → Interface → List Link
links_of_interface ends own = own.link ∷ option_to_list (stub_between own ends)

-- the links of some interfaces of a router in an area
abbrev pub links_of_interfaces : Lists → AreaId → RouterId → List Interface → List Link
links_of_interfaces db area router chosen = flat_map (λ own. links_of_interface (far_ends_in db area router own) own) chosen

-- a link is among others of its LSA: no two begin at one place
abbrev pub is_among : List Link → Link → Bool
is_among links link = list_any (λ other. other.offset == link.offset) links

-- ---- between two routers

-- the interfaces of a router with a point-to-point link to a neighbor
abbrev pub interfaces_to : Lists → AreaId → RouterId → RouterId → List Interface
interfaces_to db area router neighbor = links_back neighbor (interfaces_in db area router)

-- the links of all interfaces of a router to a neighbor
abbrev pub links_to : Lists → AreaId → RouterId → RouterId → List Link
links_to db area router neighbor = links_of_interfaces db area router (interfaces_to db area router neighbor)

-- the link of an interface is one to a router or to a transit network, and has this address, or this index where it is
-- unnumbered (A.4.2)
abbrev pub has_own_addr : Addr → Interface → Bool
has_own_addr address own = has_cost own.link.kind && (own.link.link_data.0 == address.0)

-- the interfaces at one end of a link: those to the neighbor that have the address
abbrev pub interfaces_at : Lists → AreaId → LinkEnd → List Interface
interfaces_at db area end = filter (has_own_addr end.address) (interfaces_to db area end.router end.neighbor)

-- those of the neighbor to the router that have it
abbrev pub other_way : LinkEnd → LinkEnd
other_way end = record { router = end.neighbor; neighbor = end.router; address = end.address }

-- the interfaces at the other ends of some of a router
abbrev pub ends_of : Lists → AreaId → RouterId → List Interface → List Interface
ends_of db area router owns = flat_map (far_ends_in db area router) owns

-- an interface of the neighbor has at most one far end itself: parallel links without addresses may look the same
abbrev pub is_only_end : Lists → AreaId → RouterId → List Interface → Bool
is_only_end db area neighbor [] = true
is_only_end db area neighbor (end ∷ []) = nat_le (length (far_ends_in db area neighbor end)) 1
is_only_end db area neighbor (end ∷ other ∷ ends) = false

-- at most one of these interfaces of a router, and at most one at its other end
abbrev pub is_clear : Lists → AreaId → LinkEnd → List Interface → Bool
is_clear db area end [] = true
is_clear db area end (own ∷ []) = is_only_end db area end.neighbor (far_ends_in db area end.router own)
is_clear db area end (own ∷ other ∷ owns) = false

-- ---- of one router

-- the links of the interfaces of a router with this address, to a router or to a transit network
abbrev pub links_at : Lists → AreaId → RouterId → Addr → List Link
links_at db area router address = links_of_interfaces db area router (filter (has_own_addr address) (interfaces_in db area router))

-- the links of all interfaces of a router to routers and transit networks
abbrev pub links_to_others : Lists → AreaId → RouterId → List Link
links_to_others db area router = links_of_interfaces db area router (filter (λ own. has_cost own.link.kind) (interfaces_in db area router))

-- the links of a router
abbrev pub links_in : Lists → AreaId → RouterId → List Link
links_in db area router = map (λ own. own.link) (interfaces_in db area router)

-- a link to a stub network that has an address, and is not one of `paired`
abbrev pub is_stub_at : List Link → Addr → Link → Bool
is_stub_at paired address link = has_addr link address && not (is_among paired link)

-- the links of a router to stub networks that have an address, but for those of point-to-point interfaces (12.4.1.1)
abbrev pub stubs_at : Lists → AreaId → RouterId → Addr → List Link
stubs_at db area router address = filter (is_stub_at (links_to_others db area router) address) (links_in db area router)

-- the links to routers and transit networks, without those of their interfaces' networks
abbrev pub transit_links : Lists → AreaId → RouterId → List Link
transit_links db area router = filter (λ link. has_cost link.kind) (links_in db area router)
