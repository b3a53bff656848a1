use Rattle.std.proofs.Common.{◌≡◌, drop}
use Rattle.std.specs.List.{find}
use Rattle.lsdb.specs.Lists.{is_section}
use Rattle.lsdb.specs.Slots.{lists_of}
use Rattle.lsdb.proofs.database.Database.index_of.Given as goal

abbrev pub invariant-loop-index : goal.invariant-loop-index
invariant-loop-index g l = find (is_section l.section) (drop l.index (lists_of l.self)) ≡ find (is_section l.section) (lists_of l.self)
