-- The same changes seen from the other side: what was before is now, and what is now was before.
use Rattle.std.specs.Prelude.{map}
use Rattle.table_changes.specs.declared.change.Change.{Change}
use Rattle.table_changes.specs.declared.change.Change.TheVariants.{Missing, Gained, OtherKind, Costlier, Cheaper, Moved}
use Rattle.table_changes.specs.declared.change.PrefixChange.{PrefixChange}
use Rattle.table_changes.specs.Changes.{ChangesValue}

abbrev pub opposite : Change → Change
opposite Missing = Gained
opposite Gained = Missing
opposite OtherKind = OtherKind
opposite Costlier = Cheaper
opposite Cheaper = Costlier
opposite Moved = Moved

abbrev pub swapped_change : PrefixChange → PrefixChange
swapped_change c = record { net = c.net; change = opposite c.change }

abbrev pub swapped : ChangesValue → ChangesValue
swapped found = record { changes = map swapped_change found.changes; unchanged = found.unchanged }
