use Rattle.std.proofs.Common.{take}
use Rattle.std.specs.Prelude.{All}
use Rattle.lsdb.specs.Slots.{lists_of}
use Rattle.test_databases.specs.Edited.{HasSame}
use Rattle.test_databases.proofs.sections.have_same.Given as goal

-- the LSAs of the sections so far are the same
abbrev pub invariant-loop-section : goal.invariant-loop-section
invariant-loop-section g l = All (HasSame (lists_of l.database) (lists_of l.other)) (take l.section-index l.sections)
