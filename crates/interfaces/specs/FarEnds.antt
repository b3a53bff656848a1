-- The far ends of a point-to-point link: the neighbor's links back to the router (RFC 2328, 16.1, step 2 (b)). Parallel links
-- are distinguished by the addresses of their interfaces, as far as the stub links give these (12.4.1.1).
use Rattle.std.specs.Prelude.{ℕ, ◌||◌, Bool, false, if◌then◌else◌, List, [], ◌∷◌, filter, map, Option, None, Some}
use Rattle.std.specs.List.{list_any}
use Rattle.std.specs.Option.{option_map_or}
use Rattle.std.specs.Ordering.{nat_cmp}
use Rattle.lsa_codec.specs.declared.address.Addr.{Addr}
use Rattle.lsa_codec.specs.declared.address.AreaId.{AreaId}
use Rattle.lsa_codec.specs.declared.address.RouterId.{RouterId}
use Rattle.lsa_codec.specs.declared.link.Link.{Link}
use Rattle.lsa_codec.specs.Links.{is_point_to_point}
use Rattle.lsa_codec.specs.Making.{leads_to}
use Rattle.lsdb.specs.Lists.{Lists}
use Rattle.area_graph.specs.Rising.{rising}
use Rattle.interfaces.specs.declared.interface.Interface.{Interface}
use Rattle.interfaces.specs.Interfaces.{has_addr}
use Rattle.interfaces.specs.Routers.{interfaces_in}

-- the stub link of one interface has the address of the other
abbrev pub faces : Interface → Interface → Bool
faces a b = option_map_or (λ stub. has_addr stub b.link.link_data) a.stub false

-- two interfaces are known as the ends of one link
abbrev pub face_each_other : Interface → Interface → Bool
face_each_other a b = faces a b || faces b a

-- the links of the neighbor that lead back to the router
abbrev pub links_back : RouterId → List Interface → List Interface
links_back router theirs = filter (λ x. leads_to router x.link) theirs

-- the first list, or the second where the first has nothing
abbrev pub or_else : List Interface → List Interface → List Interface
or_else [] others = others
or_else (x ∷ xs) others = x ∷ xs

-- the far ends of an interface of the router among the interfaces of its neighbor: the links back, and of these only those that
-- face the interface, where there are such. Links that are not point-to-point have none.
abbrev pub far_ends : RouterId → Interface → List Interface → List Interface
far_ends router own theirs =
    if is_point_to_point own.link.kind
    then or_else (filter (face_each_other own) (links_back router theirs)) (links_back router theirs)
    else []

-- the far ends of an interface of the router in an area: the neighbor is the router of the Link ID (A.4.2)
abbrev pub far_ends_in : Lists → AreaId → RouterId → Interface → List Interface
far_ends_in db area router own = far_ends router own (interfaces_in db area (record { 0 = own.link.id.0 }))

-- ---- with its far ends

-- the stub link has the address of the interface, or of one of its far ends
abbrev pub is_between : Interface → List Interface → Link → Bool
is_between own ends stub = has_addr stub own.link.link_data || list_any (λ end. has_addr stub end.link.link_data) ends

abbrev pub stub_if : Interface → List Interface → Option Link → Option Link
stub_if own ends None = None
stub_if own ends (Some stub) = if is_between own ends stub then Some stub else None

-- the stub link of an interface with these far ends (12.4.1.1); another host's, as a loopback's, may stand in its place
abbrev pub stub_between : Interface → List Interface → Option Link
stub_between own ends = stub_if own ends own.stub

-- the costs of the links back, in rising order
abbrev pub costs_back : List Interface → List ℕ
costs_back ends = rising nat_cmp (map (λ end. end.link.metric) ends)

-- the addresses of far ends, in rising order
abbrev pub addrs_of : List Interface → List Addr
addrs_of ends = map (λ n. record { 0 = n }) (rising nat_cmp (map (λ end. end.link.link_data.0) ends))
