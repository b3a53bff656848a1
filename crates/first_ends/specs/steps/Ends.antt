-- The neighbors at the other ends of edges on paths of least cost.
use Rattle.std.specs.Prelude.{◌≡◌, ◌↔◌, ◌⊎◌, ℕ, true, if◌then◌else◌, List, Contains, Option, None, Some}
use Rattle.lsa_codec.specs.declared.address.Addr.{Addr}
use Rattle.lsa_codec.specs.declared.address.RouterId.{RouterId}
use Rattle.area_graph.specs.declared.vertex.Vertex.{Vertex}
use Rattle.area_graph.specs.declared.vertex.Vertex.TheVariants.{Router}
use Rattle.area_graph.specs.Area.{used}
use Rattle.area_graph.specs.AreaEdges.{area_edges}
use Rattle.area_graph.specs.Paths.{DirectedEdge}
use Rattle.least_paths.specs.LeastPaths.{edge_of, is_on_way}
use Rattle.least_paths.specs.declared.least_edge.LeastEdge.{LeastEdge}
use Rattle.area_candidates.specs.Views.{AreaViewValue, lsas_in}
use Rattle.first_ends.specs.FirstEnds.{router_of, starts_over}

-- the neighbor at the other end of an edge, if it starts at a router with this Link Data
abbrev pub end_over : RouterId → Addr → LeastEdge → Option RouterId
end_over router interface e = if starts_over router interface (edge_of e) then router_of e.to else None

abbrev pub IsEndOf : RouterId → Addr → LeastEdge → RouterId → Type 0
IsEndOf router interface e end = end_over router interface e ≡ Some end

-- that of one of some edges
abbrev pub IsEndOver : RouterId → Addr → List LeastEdge → RouterId → Type 0
IsEndOver router interface edges end = (e : LeastEdge) × Contains edges e × IsEndOf router interface e end

-- new has what old has, and what P holds of
abbrev pub InsertsRouters : (RouterId → Type 0) → List RouterId → List RouterId → Type 0
InsertsRouters P old new = (k : RouterId) → Contains new k ↔ (Contains old k ⊎ P k)

-- an edge of an area on a path of least cost from its router to one of some vertices
abbrev pub IsEdgeTo : AreaViewValue → List Vertex → DirectedEdge Vertex → Type 0
IsEdgeTo view vertices e =
    let edges = area_edges (used (lsas_in view)) in
    Contains edges e × (is_on_way edges (Router view.router) vertices e ≡ true)

-- these are all such edges, each with a distance
pub record AreEdgesTo (view : AreaViewValue) (vertices : List Vertex) (found : List LeastEdge) : Type 0 where
  pub are : (e : LeastEdge) → Contains found e → IsEdgeTo view vertices (edge_of e)
  pub all : (e : DirectedEdge Vertex) → IsEdgeTo view vertices e → (d : ℕ)
      × Contains found (record { from = e.from; to = e.to; cost = e.cost; link_data = e.link_data; distance = d })
