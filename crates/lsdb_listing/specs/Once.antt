-- Differences, each once.
use Rattle.std.specs.Prelude.{◌≡◌, ℕ, Bool, List}
use Rattle.std.specs.List.{list_any}
use Rattle.std.specs.List.Sorted.{IsStrictlySortedBy}
use Rattle.std.specs.Ordering.{nat_cmp, ordering_then, eq_by_cmp}
use Rattle.std.specs.declared.cmp.Ordering.{Ordering}
use Rattle.lsa_instances.specs.Order.{place_cmp}
use Rattle.lsdb_listing.specs.declared.difference.Change.{Change}
use Rattle.lsdb_listing.specs.declared.difference.Change.TheVariants as changes
use Rattle.lsdb_listing.specs.declared.difference.Difference.{Difference}

abbrev pub change_number : Change → ℕ
change_number changes.Missing = 0
change_number changes.Newer = 1
change_number changes.Older = 2

-- what is missing stands first, then what is newer in the list, then what is older there; each by its place
abbrev pub difference_cmp : Difference → Difference → Ordering
difference_cmp a b = ordering_then (nat_cmp (change_number a.change) (change_number b.change)) (place_cmp a.place b.place)

-- whether the difference is one of these
abbrev pub has : Difference → List Difference → Bool
has one these = list_any (eq_by_cmp difference_cmp one) these

-- the same differences, each once, in order
pub record AreOnce (these once : List Difference) : Type 0 where
  pub which : (one : Difference) → has one once ≡ has one these
  pub order : IsStrictlySortedBy difference_cmp once
