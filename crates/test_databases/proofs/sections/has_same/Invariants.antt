use Rattle.std.proofs.Common.{◌≡◌, take}
use Rattle.lsdb.specs.Lists.{lsas_of}
use Rattle.lsdb.specs.Slots.{lists_of}
use Rattle.test_databases.proofs.sections.has_same.Given as goal

-- the LSAs so far are the same
abbrev pub invariant-loop-number : goal.invariant-loop-number
invariant-loop-number g l =
    take l.number (lsas_of l.section (lists_of l.database)) ≡ take l.number (lsas_of l.section (lists_of l.other))
