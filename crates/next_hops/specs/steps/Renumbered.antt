-- Lists of hops under new numbers.
use Rattle.std.specs.Prelude.{◌≡◌, ℕ, ◌<◌, List, length, slice_index_or, None, Some}
use Rattle.std.specs.declared.vec.Vec.{Vec}
use Rattle.next_hops.specs.declared.hop.Hop.{Hop}
use Rattle.next_hops.specs.declared.renumbered.Renumbered.{Renumbered}
use Rattle.next_hops.specs.steps.Shared.{list_in}

-- each list with a new number is the same under it as under the old one
pub record IsRenumbered {A : Type 0} (lists : List (Vec Hop A)) (r : Renumbered A) : Type 0 where
  pub sized : length r.places.items ≡ length lists
  pub same : (n p : ℕ) → slice_index_or r.places.items n None ≡ Some p → (p < length r.lists.items) × (list_in r.lists.items p ≡ list_in lists n)
