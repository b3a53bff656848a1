use Rattle.std.proofs.Common.{◌≡◌, take}
use Rattle.std.specs.List.{filter_map}
use Rattle.table_changes.specs.Changes.{change_at}
use Rattle.table_changes.proofs.table_changes.changes_at.Given as goal

-- what differs for the prefixes so far; the entries stay
abbrev pub invariant-loop-net : goal.invariant-loop-net
invariant-loop-net g l = record {
  changes : l.changes.items ≡ filter_map (change_at l.rerouted l.before l.now) (take l.net-index l.nets);
  earlier : l.earlier ≡ l.before;
  present : l.present ≡ l.now;
}
