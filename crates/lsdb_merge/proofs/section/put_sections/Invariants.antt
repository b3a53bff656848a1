use Rattle.std.proofs.Common.{take}
use Rattle.lsdb_merge.specs.Joining.{section}
use Rattle.lsdb_merge.proofs.Sections.{AreWritten}
use Rattle.lsdb_merge.proofs.section.put_sections.Given as goal

abbrev pub invariant-loop-scope : goal.invariant-loop-scope
invariant-loop-scope g l = AreWritten (section l.areas l.newest) (take l.scope-index l.scopes) l.fn.out.items l.out.items
