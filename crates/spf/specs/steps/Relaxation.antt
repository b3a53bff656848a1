-- Distances so far, and that no edge lowers them.
use Rattle.std.specs.Prelude.{◌≡◌, ℕ, ◌+◌, ◌*◌, ◌≤◌, List, Option, None, Some, slice_index_or, is_some, IsSomeAnd, count_by}
use Rattle.area_graph.specs.Paths.{DirectedEdge, HasPathOfCost}
use Rattle.area_graph.specs.Topology.{Topology, IsArc}

-- there is a distance, and it is at most d
abbrev pub IsAtMost : Option ℕ → ℕ → Type 0
IsAtMost distance d = IsSomeAnd distance (λ x. x ≤ d)

-- how many vertices have a distance
abbrev pub reached_count : List (Option ℕ) → ℕ
reached_count ds = count_by (λ o. is_some o) ds

-- no distance is longer than a path over the other vertices that are reached
abbrev pub Bounded : List (Option ℕ) → Type 0
Bounded ds = (i d : ℕ) → slice_index_or ds i None ≡ Some d → d + 65535 ≤ 65535 * reached_count ds

-- each distance is the cost of a path from the root, which is at 0
pub record Sound (t : Topology) (root : ℕ) (ds : List (Option ℕ)) : Type 0 where
  pub root_at : slice_index_or ds root None ≡ Some 0
  pub paths : (i d : ℕ) → slice_index_or ds i None ≡ Some d → HasPathOfCost (IsArc t) root i d

-- no edge leads to a less distance
abbrev pub Closed : Topology → List (Option ℕ) → Type 0
Closed t ds =
    (e : DirectedEdge ℕ) (d : ℕ) → IsArc t e → slice_index_or ds e.from None ≡ Some d
    → IsAtMost (slice_index_or ds e.to None) (d + e.cost)
