-- The shortest-path tree of a router (RFC 2328, 16.1).
use Rattle.std.specs.Prelude.{◌≡◌, ℕ, ◌+◌, ◌-◌, ◌<◌, ◌^◌, min, All, List, map, filter, is_some, unwrap_or, Option, None, Some, IfSome, Result, Ok, Err, length, slice_get, slice_index_or, Contains, IsSome, AllPairs}
use Rattle.std.specs.List.{range_with_len, position_or_len}
use Rattle.std.specs.declared.cmp.Ordering.{Ordering}
use Rattle.area_graph.specs.declared.vertex.Vertex.{Vertex}
use Rattle.area_graph.specs.Vertex.{is_same}
use Rattle.area_graph.specs.Paths.{IsDistance}
use Rattle.area_graph.specs.AllPaths.{distance_of}
use Rattle.area_graph.specs.Rising.{rising}
use Rattle.area_graph.specs.Topology.{Topology, IsEdge, edges_of}
use Rattle.spf.specs.declared.fault.SpfFault.{SpfFault}
use Rattle.spf.specs.declared.fault.SpfFault.TheVariants.{NoRouter, OutOfMemory}
use Rattle.spf.specs.Candidates.{IsEarlier, candidate_cmp, candidate_at}

-- the number of the root, the distance of each vertex, and the reached vertices in order
pub record Distances : Type 0 where
  pub root : ℕ
  pub distances : List (Option ℕ)
  pub order : List ℕ

-- each distance is below 2^32, and the reached vertices are among those that have a place
pub record AreInRange (tree : Distances) : Type 0 where
  pub below : All (λ o. IfSome o (λ d. d < 2 ^ 32)) tree.distances
  pub within : All (λ i. i < length tree.distances) tree.order

-- the distances of the graph's vertices from this one: of each the least cost of all paths to it,
-- and none where there is no path; and the reached ones in order, each once
pub record IsTreeOf (t : Topology) (root : Vertex) (tree : Distances) : Type 0 where
  pub root_at : slice_get t.vertices tree.root ≡ Some root
  pub sized : length tree.distances ≡ length t.vertices
  pub distance : (i : ℕ) (v : Vertex) → slice_get t.vertices i ≡ Some v → IsDistance (IsEdge t) root v (slice_index_or tree.distances i None)
  pub below : (i d : ℕ) → slice_index_or tree.distances i None ≡ Some d → d < 2 ^ 32
  pub settled : (i : ℕ) → Contains tree.order i → IsSome (slice_index_or tree.distances i None)
  pub listed : (i : ℕ) → IsSome (slice_index_or tree.distances i None) → Contains tree.order i
  pub rising : AllPairs (λ i j. IsEarlier t tree.distances i j) tree.order

-- the distance of each vertex from this one
abbrev pub distances_of : Topology → Vertex → List (Option ℕ)
distances_of t root = map (λ v. distance_of (edges_of t) root v) t.vertices

-- of reached vertices by distance, then networks before routers, then by number
abbrev pub settled_cmp : Topology → List (Option ℕ) → ℕ → ℕ → Ordering
settled_cmp t ds i j = candidate_cmp (candidate_at t (unwrap_or (slice_index_or ds i None) 0) i) (candidate_at t (unwrap_or (slice_index_or ds j None) 0) j)

-- the numbers of the reached vertices, in this order
unfoldable pub order_of : Topology → List (Option ℕ) → List ℕ
order_of t ds = rising (settled_cmp t ds) (filter (λ i. is_some (slice_index_or ds i None)) (range_with_len 0 (length ds)))

-- the number of a vertex
abbrev pub number_of : Topology → Vertex → ℕ
number_of t root = position_or_len (λ v. is_same v root) t.vertices

-- the tree of a vertex, as a function of the graph
abbrev pub tree_of : Topology → Vertex → Distances
tree_of t root = record { root = number_of t root; distances = distances_of t root; order = order_of t (distances_of t root) }

-- what each fault says of the root
abbrev pub FaultMeans : Topology → Vertex → SpfFault → Type 0
FaultMeans t root NoRouter = ¬ Contains t.vertices root
FaultMeans t root OutOfMemory = Contains t.vertices root

-- one more, up to the greatest value
abbrev pub counted : ℕ → ℕ
counted n = min (n + 1) (2 ^ 64 - 1)

-- the meter rises wherever the root was found
abbrev pub meter_after : {T : Type 0} → Result T SpfFault → ℕ → ℕ
meter_after (Ok tree) n = counted n
meter_after (Err NoRouter) n = n
meter_after (Err OutOfMemory) n = counted n
