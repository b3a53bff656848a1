use Rattle.std.proofs.Common.{◌≡◌, take}
use Rattle.lsdb.specs.Slots.{lists_of}
use Rattle.sweep_report.specs.Sweeps.{AreLines}
use Rattle.sweep_report.proofs.sweeping.lines_of.Given as goal

-- the copy has the LSAs of the database, and there is a line for each failure so far
abbrev pub invariant-loop-edit : goal.invariant-loop-edit
invariant-loop-edit g l = record {
  same : lists_of l.copy ≡ lists_of l.database;
  lines : AreLines (lists_of l.database) (take l.edit-index l.edits) l.lines.items;
}
