-- The steps of Dijkstra's algorithm (RFC 2328, 16.1).
use Rattle.std.specs.Prelude.{◌≡◌, ℕ, ◌+◌, ◌<◌, ◌≤◌, ◌^◌, List, [], ◌∷◌, ◌++◌, Contains, IsSome, IsPermutation, Option, None, Some, slice_index_or, slice_set, length, AllPairs, ◌⊎◌, MatchOption}
use Rattle.area_graph.specs.declared.edge.Edge.{Edge}
use Rattle.area_graph.specs.Paths.{DirectedEdge}
use Rattle.area_graph.specs.Topology.{Topology, IsArc}
use Rattle.spf.specs.declared.queue.Candidate.{Candidate}
use Rattle.spf.specs.Candidates.{candidate_at, IsEarlier}
use Rattle.spf.specs.steps.Relaxation.{Bounded, Sound, Closed}

-- a candidate to this vertex, at this distance or less
abbrev pub IsQueued : List Candidate → ℕ → ℕ → Type 0
IsQueued queue i d = (c : Candidate) × Contains queue c × (c.index ≡ i) × (c.distance ≤ d)

-- no vertex that is settled is farther
abbrev pub IsNoneFarther : List (Option ℕ) → ℕ → Type 0
IsNoneFarther ds distance = (i d : ℕ) → slice_index_or ds i None ≡ Some d → d ≤ distance

-- new is old with a candidate for the vertex that an edge leads to; or it is old, and that vertex is settled or has one that is no farther
abbrev pub PushesEdge : Topology → Edge → ℕ → List (Option ℕ) → List Candidate → List Candidate → Type 0
PushesEdge t edge distance ds old new =
    IsPermutation (candidate_at t (distance + edge.cost) edge.to ∷ old) new
    ⊎ ((new ≡ old) × (IsSome (slice_index_or ds edge.to None) ⊎ IsQueued old edge.to (distance + edge.cost)))

-- new is old, with candidates for edges out of a vertex: each leads to one that is settled or queued
pub record PushesNeighbors (t : Topology) (from distance : ℕ) (ds : List (Option ℕ)) (old new : List Candidate) : Type 0 where
  pub kept : (c : Candidate) → Contains old c → Contains new c
  pub only : (c : Candidate) → Contains new c → Contains old c ⊎ ((e : DirectedEdge ℕ) × IsArc t e × (e.from ≡ from) × (c ≡ candidate_at t (distance + e.cost) e.to))
  pub all : (e : DirectedEdge ℕ) → IsArc t e → e.from ≡ from → IsSome (slice_index_or ds e.to None) ⊎ IsQueued new e.to (distance + e.cost)

-- the vertex of a candidate has its distance, stands last in the order, and its neighbors are pushed
pub record SettlesOne (t : Topology) (next : Candidate) (ds : List (Option ℕ)) (order : List ℕ) (queue : List Candidate) (ds' : List (Option ℕ)) (order' : List ℕ) (queue' : List Candidate) : Type 0 where
  pub distances : ds' ≡ slice_set ds next.index (Some next.distance)
  pub last : order' ≡ order ++ next.index ∷ []
  pub pushes : PushesNeighbors t next.index next.distance ds' queue queue'
  pub count : length queue' < length queue + 2 ^ 64

-- so it is where the vertex had no distance; where it had one, nothing changes
abbrev pub SettlesNew : Topology → Candidate → List (Option ℕ) → List ℕ → List Candidate → List (Option ℕ) → List ℕ → List Candidate → Type 0
SettlesNew t next ds order queue ds' order' queue' =
    MatchOption (slice_index_or ds next.index None) (SettlesOne t next ds order queue ds' order' queue') (λ _. (ds' ≡ ds) × (order' ≡ order) × (queue' ≡ queue))

-- the distances from the root, and the vertices that have one, each once, in their order
pub record IsSettled (t : Topology) (root : ℕ) (ds : List (Option ℕ)) (order : List ℕ) : Type 0 where
  pub sized : length ds ≡ length t.vertices
  pub sound : Sound t root ds
  pub closed : Closed t ds
  pub bounded : Bounded ds
  pub settled : (i : ℕ) → Contains order i → IsSome (slice_index_or ds i None)
  pub listed : (i : ℕ) → IsSome (slice_index_or ds i None) → Contains order i
  pub rising : AllPairs (λ i j. IsEarlier t ds i j) order
