use Rattle.std.proofs.Common.{take}
use Rattle.area_graph.specs.steps.Ranks.{AreRanksOf}
use Rattle.area_graph.proofs.ranks.ranks.Given as goal

abbrev pub invariant-loop-lsa : goal.invariant-loop-lsa
invariant-loop-lsa g l = AreRanksOf (take l.lsa-index l.lsas) l.ranks
