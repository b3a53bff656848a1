-- The vertices that are reached, as they are built.
use Rattle.std.specs.Prelude.{◌≡◌, ◌<◌, ◌^◌, ℕ, List, Option, length, map, filter_map}
use Rattle.area_graph.specs.declared.vertex.Vertex.{Vertex}
use Rattle.area_graph.specs.Area.{vertex_of, vertices_of}
use Rattle.area_graph.specs.Topology.{IsTopology, Topology}
use Rattle.spf.specs.Distances.{Distances}
use Rattle.next_hops.specs.declared.hop.Hop.{Hop}
use Rattle.next_hops.specs.Hop.{IsSortedHops}
use Rattle.area_routes.specs.Reached.{ReachedValue, reached_by}

-- distances are below 2^32, and hops are in order
pub record IsReached (r : ReachedValue) : Type 0 where
  pub near : r.distance < 2 ^ 32
  pub sorted : IsSortedHops r.hops

-- a graph with the vertices of these LSAs, and a distance and hops for each vertex
pub record FitGraph (lsas : List (List ℕ)) (graph : Topology) (tree : Distances) (hops : List (List Hop)) : Type 0 where
  pub vertices : graph.vertices ≡ vertices_of lsas
  pub shape : IsTopology graph
  pub a_distance_each : length tree.distances ≡ length graph.vertices
  pub hops_each : length hops ≡ length graph.vertices

-- the LSAs in use whose vertices have a distance, with it and with their hops
abbrev pub AreReached : List (List ℕ) → List (Option ℕ) → List (List Hop) → List ReachedValue → Type 0
AreReached lsas distances hops reached =
    (distance : Vertex → Option ℕ) (first : Vertex → List Hop) → distances ≡ map (λ l. distance (vertex_of l)) lsas
    → hops ≡ map (λ l. first (vertex_of l)) lsas → reached ≡ filter_map (reached_by distance first) lsas
