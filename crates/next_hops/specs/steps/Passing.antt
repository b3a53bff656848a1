-- Hops that are handed from a vertex to the ends of its edges.
use Rattle.std.specs.Prelude.{◌≡◌, ℕ, ◌+◌, length, slice_index_or, slice_get, if◌then◌else◌, Bool, false, List, Option, None, Some, All, Contains, ◌⊎◌}
use Rattle.std.specs.Option.{option_map_or}
use Rattle.lsa_codec.specs.declared.address.Addr.{Addr}
use Rattle.area_graph.specs.declared.edge.Edge.{Edge}
use Rattle.area_graph.specs.Vertex.{is_network}
use Rattle.area_graph.specs.Paths.{DirectedEdge}
use Rattle.area_graph.specs.Topology.{Topology, row_at}
use Rattle.spf.specs.Distances.{Distances}
use Rattle.next_hops.specs.declared.hop.Hop.{Hop}
use Rattle.next_hops.specs.declared.hop.Hop.TheVariants.{Link, Attached}
use Rattle.next_hops.specs.Hop.{IsSortedHops, extended}
use Rattle.next_hops.specs.FirstHops.{hops_at}

-- one of these hops, over one more edge
abbrev pub IsExtended : List Hop → Addr → Hop → Type 0
IsExtended hops a h = (g : Hop) × Contains hops g × (extended g a ≡ h)

-- whether the vertex with this number is a network
abbrev pub is_network_at : Topology → ℕ → Bool
is_network_at t i = option_map_or (λ v. is_network v) (slice_get t.vertices i) false

-- the first hop of a path of one edge, to this vertex and carrying this address
abbrev pub first_at : Topology → ℕ → Addr → Hop
first_at t to d = if is_network_at t to then Attached d else Link d

-- an edge out of a vertex, with its start
abbrev pub arc_of : ℕ → Edge → DirectedEdge ℕ
arc_of from e = record { from = from; to = e.to; cost = e.cost; link_data = e.link_data }

-- the edge is the last of a path of least cost
abbrev pub IsTight : List (Option ℕ) → DirectedEdge ℕ → Type 0
IsTight ds e = (d : ℕ) × (slice_index_or ds e.from None ≡ Some d) × (slice_index_or ds e.to None ≡ Some (d + e.cost))

-- the hop of a path of least cost whose last edge this is, where hops are those of the edge's start
abbrev pub IsPassed : Topology → Distances → List Hop → DirectedEdge ℕ → Hop → Type 0
IsPassed t tree hops e h =
    IsTight tree.distances e × (((e.from ≡ tree.root) × (first_at t e.to e.link_data ≡ h)) ⊎ IsExtended hops e.link_data h)

-- a hop that reaches one vertex over an edge out of another
abbrev pub IsPassedFrom : Topology → Distances → List Hop → ℕ → ℕ → Hop → Type 0
IsPassedFrom t tree hops from i h = (o : Edge) × Contains (row_at t from) o × (i ≡ o.to) × IsPassed t tree hops (arc_of from o) h

-- new is old with the hops of which P holds
pub record Grows (P : ℕ → Hop → Type 0) (old new : List (List Hop)) : Type 0 where
  pub sized : length new ≡ length old
  pub kept : (i : ℕ) (h : Hop) → Contains (hops_at old i) h → Contains (hops_at new i) h
  pub only : (i : ℕ) (h : Hop) → Contains (hops_at new i) h → Contains (hops_at old i) h ⊎ P i h
  pub all : (i : ℕ) (h : Hop) → P i h → Contains (hops_at new i) h
  pub sorted : All IsSortedHops old → All IsSortedHops new
