use Rattle.std.proofs.Common.{take}
use Rattle.lsa_instances.proofs.Steps.{Looked}
use Rattle.lsa_instances.proofs.choice.newest_of_sorted.Given as goal

abbrev pub invariant-loop-observation : goal.invariant-loop-observation
invariant-loop-observation g l = Looked l.flushed (take l.observation-index l.observation-items) l.flush l.newest.items
