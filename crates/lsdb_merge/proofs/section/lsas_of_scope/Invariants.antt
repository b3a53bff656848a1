use Rattle.std.proofs.Common.{take}
use Rattle.lsdb_merge.proofs.Counted.{IsCounted}
use Rattle.lsdb_merge.proofs.section.lsas_of_scope.Given as goal

abbrev pub invariant-loop-observation : goal.invariant-loop-observation
invariant-loop-observation g l = IsCounted l.scope (take l.observation-index l.newest) l.count l.lsa_bytes.items
