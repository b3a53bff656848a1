-- The interfaces that a router-LSA describes (RFC 2328, 12.4.1): its links, and with those of type 1 the stub links of their
-- interfaces.
use Rattle.std.specs.Prelude.{ℕ, ◌==◌, ◌&&◌, ◌||◌, Bool, if◌then◌else◌, List, [], ◌∷◌, Option, Some, None, bit_and}
use Rattle.lsa_codec.specs.declared.address.Addr.{Addr}
use Rattle.lsa_codec.specs.declared.link.Link.{Link}
use Rattle.lsa_codec.specs.Links.{is_point_to_point, is_stub, links_of}
use Rattle.interfaces.specs.declared.interface.Interface.{Interface}

-- the network of a stub link has this address: it agrees with the Link ID in the bits of the mask, the Link Data (A.4.2)
abbrev pub has_addr : Link → Addr → Bool
has_addr stub addr = is_stub stub.kind && (bit_and addr.0 stub.link_data.0 == bit_and stub.id.0 stub.link_data.0)

-- a stub link for one host, with a mask of ones (A.4.2)
abbrev pub is_host : Link → Bool
is_host stub = is_stub stub.kind && (stub.link_data.0 == 0xffffffff)

-- the stub link of a type 1 link's interface has the interface's subnet, or the address of the router at the other end, as a
-- host (12.4.1.1, options 2 and 1)
abbrev pub is_stub_of : Link → Link → Bool
is_stub_of link stub = is_point_to_point link.kind && (has_addr stub link.link_data || is_host stub)

-- it stands right after the type 1 link (12.4.1.1)
abbrev pub stub_after : Link → List Link → Option Link
stub_after link [] = None
stub_after link (next ∷ links) = if is_stub_of link next then Some next else None

-- each link, with the stub link of its interface
unfoldable pub interfaces_from : List Link → List Interface
interfaces_from [] = []
interfaces_from (link ∷ links) = record { link = link; stub = stub_after link links } ∷ interfaces_from links

-- the interfaces of a router-LSA, in the order of its links
abbrev pub interfaces_of : List ℕ → List Interface
interfaces_of lsa = interfaces_from (links_of lsa)
