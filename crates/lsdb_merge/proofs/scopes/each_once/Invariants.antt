use Rattle.std.proofs.Common.{take}
use Rattle.lsdb_merge.specs.steps.Scopes.{AreOnce}
use Rattle.lsdb_merge.proofs.scopes.each_once.Given as goal

abbrev pub invariant-loop-scope : goal.invariant-loop-scope
invariant-loop-scope g l = AreOnce (take l.scope-index l.sorted) l.once.items
