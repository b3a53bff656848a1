-- The links of a router in an area, and the ends of edges out of it (RFC 2328, 12.4.1 and 16.1).
use Rattle.std.specs.Prelude.{Bool, List, []}
use Rattle.std.specs.Option.{option_map_or}
use Rattle.lsa_codec.specs.declared.address.RouterId.{RouterId}
use Rattle.lsa_codec.specs.declared.link.Link.{Link}
use Rattle.lsa_codec.specs.Links.{links_of}
use Rattle.area_graph.specs.declared.vertex.Vertex.{Vertex}
use Rattle.area_graph.specs.Vertex.{is_same}
use Rattle.audit_areas.specs.Areas.{AreaValue, edges_in, has_end, router_lsa_in}

-- the links of the live router-LSA of a router in an area, in their order
abbrev pub links_in : AreaValue → RouterId → List Link
links_in area router = option_map_or links_of (router_lsa_in area router) []

-- which vertices an edge leads to, out of one
abbrev pub leads_from : AreaValue → Vertex → Vertex → Bool
leads_from area v w = has_end (edges_in area) v (is_same w)
