-- What is sought in the links of a router: neighbors, addresses, transit networks (RFC 2328, A.4.2).
use Rattle.std.specs.Prelude.{ℕ, ◌==◌, ◌&&◌, List, [], Option, Some, None, if◌then◌else◌}
use Rattle.std.specs.List.{filter_map, flat_map}
use Rattle.std.specs.Option.{option_map_or}
use Rattle.std.specs.Ordering.{nat_cmp}
use Rattle.area_graph.specs.Rising.{rising}
use Rattle.lsa_codec.specs.Links.{has_cost, is_point_to_point, is_transit, links_of}
use Rattle.lsa_codec.specs.declared.address.AreaId.{AreaId}
use Rattle.lsa_codec.specs.declared.address.RouterId.{RouterId}
use Rattle.lsa_codec.specs.declared.link.Link.{Link}
use Rattle.lsdb.specs.Lists.{Lists}
use Rattle.interfaces.specs.Routers.{router_lsa_of}
use Rattle.link_report.specs.Areas.{area_ids}
use Rattle.refusal_hints.specs.declared.router_links.Sought.{Sought}
use Rattle.refusal_hints.specs.declared.router_links.Sought.TheVariants.{Neighbors, AddressesTo, Addresses, Networks}

-- of a link what is sought: the router to which a point-to-point link leads, or the Link Data of one to a router, or of a link to any
-- router or transit network; or the transit network to which one leads, by the address of its Designated Router
abbrev pub sought_of : Sought → Link → Option ℕ
sought_of Neighbors link = if is_point_to_point link.kind then Some link.id.0 else None
sought_of (AddressesTo router) link = if is_point_to_point link.kind && (link.id.0 == router.0) then Some link.link_data.0 else None
sought_of Addresses link = if has_cost link.kind then Some link.link_data.0 else None
sought_of Networks link = if is_transit link.kind then Some link.id.0 else None

-- in the live router-LSA of the router in an area
abbrev pub sought_in : Sought → Lists → RouterId → AreaId → List ℕ
sought_in what db router area = option_map_or (λ lsa. filter_map (sought_of what) (links_of lsa)) (router_lsa_of db area router) []

-- in several areas, in rising order, each once
abbrev pub sought_among : Sought → Lists → RouterId → List AreaId → List ℕ
sought_among what db router areas = rising nat_cmp (flat_map (sought_in what db router) areas)

-- in all areas
abbrev pub sought : Sought → Lists → RouterId → List ℕ
sought what db router = sought_among what db router (area_ids db)
