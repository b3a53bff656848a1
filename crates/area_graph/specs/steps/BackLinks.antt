-- Links back (RFC 2328, 16.1): the vertices that long rows name, in order.
use Rattle.std.specs.Prelude.{◌≡◌, ◌<◌, ℕ, List, [], length, map, slice_index_or}
use Rattle.std.specs.List.Sorted.{IsNonDecreasing, IsPermutation}
use Rattle.area_graph.specs.declared.edge.Edge.{Edge}
use Rattle.area_graph.specs.steps.Naming.{row_in}
use Rattle.area_graph.specs.steps.Drafts.{AreWithin}

-- the vertices that a row names
abbrev pub targets_of : List Edge → List ℕ
targets_of row = map (λ e. e.to) row

-- the vertices that a row names, in rising order, and each as often as it is named
pub record AreTargets (row : List Edge) (targets : List ℕ) : Type 0 where
  pub rising : IsNonDecreasing targets
  pub same : IsPermutation (targets_of row) targets

-- those that a row names, if it is long
abbrev pub HasTargets : List Edge → List ℕ → Type 0
HasTargets row targets = 16 < length row → AreTargets row targets

-- those of each of the first rows
pub record HaveTargets (count : ℕ) (rows : List (List Edge)) (targets : List (List ℕ)) : Type 0 where
  pub each : length targets ≡ count
  pub here : (i : ℕ) → i < count → HasTargets (row_in rows i) (slice_index_or targets i [])

pub record AreBackLinks (rows : List (List Edge)) (targets : List (List ℕ)) : Type 0 where
  pub within : AreWithin (length rows) rows
  pub sorted : HaveTargets (length rows) rows targets
