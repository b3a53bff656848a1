-- The areas of a database, their edges and their routers (RFC 2328, 16.1).
use Rattle.std.specs.Prelude.{◌≡◌, ℕ, Bool, ◌&&◌, not, List, map, Option, Some, None}
use Rattle.std.specs.List.{filter_map, list_any}
use Rattle.lsa_codec.specs.declared.address.AreaId.{AreaId}
use Rattle.lsa_codec.specs.declared.address.RouterId.{RouterId}
use Rattle.lsa_codec.specs.Order.{router_cmp}
use Rattle.lsdb.specs.declared.section.Section.TheVariants.{Area}
use Rattle.lsdb.specs.Lists.{Lists, lsas_of}
use Rattle.area_graph.specs.declared.vertex.Vertex.{Vertex}
use Rattle.area_graph.specs.declared.vertex.Vertex.TheVariants.{Router, Network}
use Rattle.area_graph.specs.Area.{used, vertices_of}
use Rattle.area_graph.specs.AreaEdges.{area_edges}
use Rattle.area_graph.specs.Paths.{DirectedEdge}
use Rattle.area_graph.specs.Rising.{rising}
use Rattle.area_graph.specs.Rows.{is_out_of}
use Rattle.area_graph.specs.Vertex.{is_same}
use Rattle.interfaces.specs.Routers.{router_lsa_of}
use Rattle.link_report.specs.Areas.{area_ids}

-- an area of a database
pub record AreaValue : Type 0 where
  pub db : Lists
  pub area : AreaId

-- the areas of a database, in rising order of their IDs
abbrev pub audited_area : Lists → AreaId → AreaValue
audited_area db area = record { db = db; area = area }

abbrev pub audited_areas : Lists → List AreaValue
audited_areas db = map (audited_area db) (area_ids db)

-- the LSAs of an area
abbrev pub lsas_in : AreaValue → List (List ℕ)
lsas_in area = lsas_of (Area area.area) area.db

-- ---- routers

abbrev pub router_of : Vertex → Option RouterId
router_of (Router router) = Some router
router_of (Network _) = None

-- the routers of some vertices, in rising order
abbrev pub routers_among : List Vertex → List RouterId
routers_among vertices = rising router_cmp (filter_map router_of vertices)

-- the routers of an area: those with a live router-LSA there
abbrev pub routers_in : AreaValue → List RouterId
routers_in area = routers_among (vertices_of (lsas_in area))

-- the live router-LSA of a router in an area
abbrev pub router_lsa_in : AreaValue → RouterId → Option (List ℕ)
router_lsa_in area router = router_lsa_of area.db area.area router

-- ---- edges

-- the edges of an area: over links of types 1 and 2 whose other ends link back
abbrev pub edges_in : AreaValue → List (DirectedEdge Vertex)
edges_in area = area_edges (used (lsas_in area))

-- an edge leads out of a vertex
abbrev pub has_edge : List (DirectedEdge Vertex) → Vertex → Bool
has_edge edges v = list_any (is_out_of v) edges

-- an edge leads out of a vertex to one that passes a test
abbrev pub has_end : List (DirectedEdge Vertex) → Vertex → (Vertex → Bool) → Bool
has_end edges v test = list_any (λ e. is_out_of v e && test e.to) edges

-- a vertex is another one
abbrev pub is_other : Vertex → Vertex → Bool
is_other v w = not (is_same v w)

-- the vertices to which edges lead out of one: some of them pass a test where such an edge is there
abbrev pub AreEnds : List (DirectedEdge Vertex) → Vertex → List Vertex → Type 0
AreEnds edges v ends = (test : Vertex → Bool) → list_any test ends ≡ has_end edges v test
