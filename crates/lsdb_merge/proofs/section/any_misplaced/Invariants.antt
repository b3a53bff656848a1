use Rattle.std.proofs.Common.{take}
use Rattle.std.specs.Prelude.{All}
use Rattle.lsdb_merge.proofs.Placed.{IsPlaced}
use Rattle.lsdb_merge.proofs.section.any_misplaced.Given as goal

abbrev pub invariant-loop-observation : goal.invariant-loop-observation
invariant-loop-observation g l = All IsPlaced (take l.observation-index l.newest)
