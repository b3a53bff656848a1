-- The vertices of an area that are reached from the calculating router, by their LSAs (RFC 2328, 16.1).
use Rattle.std.specs.Prelude.{ℕ, List, filter_map, Option}
use Rattle.std.specs.Option.{option_map}
use Rattle.lsa_codec.specs.declared.address.RouterId.{RouterId}
use Rattle.area_graph.specs.declared.vertex.Vertex.{Vertex}
use Rattle.area_graph.specs.declared.vertex.Vertex.TheVariants.{Router}
use Rattle.area_graph.specs.Area.{vertex_of}
use Rattle.area_graph.specs.AreaEdges.{area_edges}
use Rattle.area_graph.specs.AllPaths.{distance_of}
use Rattle.next_hops.specs.declared.hop.Hop.{Hop}
use Rattle.next_hops.specs.FirstHops.{hops_of}

-- the LSA of a vertex that is reached, the vertex's distance and its next hops
pub record ReachedValue : Type 0 where
  pub lsa : List ℕ
  pub distance : ℕ
  pub hops : List Hop

-- the vertex of an LSA, if it has a distance
abbrev pub reached_by : (Vertex → Option ℕ) → (Vertex → List Hop) → List ℕ → Option ReachedValue
reached_by distance hops lsa = option_map (λ d. record { lsa = lsa; distance = d; hops = hops (vertex_of lsa) }) (distance (vertex_of lsa))

-- the vertices that are reached from a router, in the order of the LSAs, which are those in use
abbrev pub reached_from : RouterId → List (List ℕ) → List ReachedValue
reached_from root lsas = filter_map (reached_by (λ v. distance_of (area_edges lsas) (Router root) v) (λ v. hops_of (area_edges lsas) (Router root) v)) lsas
