-- Sets of items: each once, and those that are not among others.
use Rattle.std.specs.Prelude.{◌≡◌, ◌&&◌, Bool, not, List}
use Rattle.std.specs.List.{list_any}
use Rattle.std.specs.List.Sorted.{IsStrictlySortedBy}
use Rattle.std.specs.Ordering.{eq_by_cmp}
use Rattle.std.specs.declared.cmp.Ordering.{Ordering}

-- whether the item is one of these
abbrev pub has : {X : Type 0} → (X → X → Ordering) → X → List X → Bool
has cmp item items = list_any (eq_by_cmp cmp item) items

-- the same items, each once, in rising order
pub record AreOnce {X : Type 0} (cmp : X → X → Ordering) (reported once : List X) : Type 0 where
  pub which : (item : X) → has cmp item once ≡ has cmp item reported
  pub order : IsStrictlySortedBy cmp once

-- those that are named and not described, each once, in rising order
pub record AreMissing {X : Type 0} (cmp : X → X → Ordering) (named described missing : List X) : Type 0 where
  pub which : (item : X) → has cmp item missing ≡ (not (has cmp item described) && has cmp item named)
  pub order : IsStrictlySortedBy cmp missing

-- those that are in both lists, each once, in rising order
pub record AreShared {X : Type 0} (cmp : X → X → Ordering) (these others shared : List X) : Type 0 where
  pub which : (item : X) → has cmp item shared ≡ (has cmp item others && has cmp item these)
  pub order : IsStrictlySortedBy cmp shared
