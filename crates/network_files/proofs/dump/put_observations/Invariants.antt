use Rattle.std.proofs.Common.{◌≡◌, ◌++◌, take}
use Rattle.network_files.proofs.dump.put_observations.Given as goal

abbrev pub invariant-loop-observation : goal.invariant-loop-observation
invariant-loop-observation g l = l.all.items ≡ l.fn.all.items ++ take l.observation-index l.observations
