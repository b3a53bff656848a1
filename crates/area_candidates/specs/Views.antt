-- The areas of a router, and distances in them (RFC 2328, 16.1).
use Rattle.std.specs.Prelude.{ℕ, Bool, List, Option, map}
use Rattle.lsa_codec.specs.declared.address.AreaId.{AreaId}
use Rattle.lsa_codec.specs.declared.address.RouterId.{RouterId}
use Rattle.lsdb.specs.declared.section.Section.TheVariants.{Area}
use Rattle.lsdb.specs.Lists.{AreaHead, Lists, lsas_of}
use Rattle.area_graph.specs.declared.vertex.Vertex.{Vertex}
use Rattle.area_graph.specs.declared.vertex.Vertex.TheVariants.{Router}
use Rattle.area_graph.specs.AllPaths.{distance_of}
use Rattle.area_graph.specs.Area.{used}
use Rattle.area_graph.specs.AreaEdges.{area_edges}
use Rattle.area_graph.specs.Graphs.{IsGraphOf}
use Rattle.area_graph.specs.Topology.{Topology}
use Rattle.spf.specs.Distances.{Distances, IsTreeOf}
use Rattle.area_routes.specs.Attached.{attached_areas, id_of}

-- an area of a database, which may be a stub area (3.6), seen from a router
pub record AreaViewValue : Type 0 where
  pub db : Lists
  pub router : RouterId
  pub area : AreaId
  pub is_stub : Bool

-- the LSAs of the area
abbrev pub lsas_in : AreaViewValue → List (List ℕ)
lsas_in view = lsas_of (Area view.area) view.db

-- the distance of a vertex: the least cost of all paths to it, and none where there is none
abbrev pub distance_in : AreaViewValue → Vertex → Option ℕ
distance_in view v = distance_of (area_edges (used (lsas_in view))) (Router view.router) v

-- graph and tree are those of the area and the router
pub record IsViewed (view : AreaViewValue) (graph : Topology) (tree : Distances) : Type 0 where
  pub of_area : IsGraphOf (lsas_in view) graph
  pub of_graph : IsTreeOf graph (Router view.router) tree

abbrev pub area_view : Lists → RouterId → AreaHead → AreaViewValue
area_view db router area = record { db = db; router = router; area = id_of area; is_stub = area.is_stub }

-- the areas that the router is attached to
abbrev pub area_views : Lists → RouterId → List AreaViewValue
area_views db router = map (area_view db router) (attached_areas db router)
