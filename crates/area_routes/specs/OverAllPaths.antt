-- The properties of the vertices that are reached, over all paths of the area, of any length (RFC 2328, 16.1). The LSAs
-- here are those in use.
use Rattle.std.specs.Prelude.{◌≡◌, ◌↔◌, ℕ, List, Contains}
use Rattle.lsa_codec.specs.declared.address.RouterId.{RouterId}
use Rattle.area_graph.specs.declared.vertex.Vertex.{Vertex}
use Rattle.area_graph.specs.declared.vertex.Vertex.TheVariants.{Router}
use Rattle.area_graph.specs.Area.{vertex_of}
use Rattle.area_graph.specs.AreaEdges.{area_edges}
use Rattle.area_graph.specs.Paths.{DirectedEdge, IsPath, IsLeastCost}
use Rattle.next_hops.specs.declared.hop.Hop.{Hop}
use Rattle.next_hops.specs.FirstHops.{IsHopTo}
use Rattle.area_routes.specs.Reached.{ReachedValue}

-- an edge of the area
abbrev pub IsAreaEdge : List (List ℕ) → DirectedEdge Vertex → Type 0
IsAreaEdge lsas e = Contains (area_edges lsas) e

-- what is reached from a router: the vertices of the area to which a path leads, and no others, each at the least cost of
-- all paths, with the first hops of all paths of this cost
pub record AreOverAllPaths (root : RouterId) (lsas : List (List ℕ)) (rs : List ReachedValue) : Type 0 where
  pub vertices : (r : ReachedValue) → Contains rs r → Contains lsas r.lsa
  pub all : (lsa : List ℕ) (es : List (DirectedEdge Vertex)) → Contains lsas lsa → IsPath (IsAreaEdge lsas) (Router root) es (vertex_of lsa)
      → (r : ReachedValue) × Contains rs r × (r.lsa ≡ lsa)
  pub distances : (r : ReachedValue) → Contains rs r → IsLeastCost (IsAreaEdge lsas) (Router root) (vertex_of r.lsa) r.distance
  pub hops : (r : ReachedValue) (hop : Hop) → Contains rs r → Contains r.hops hop ↔ IsHopTo (IsAreaEdge lsas) (Router root) (vertex_of r.lsa) hop
