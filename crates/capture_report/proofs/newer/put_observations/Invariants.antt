use Rattle.std.proofs.Common.{◌++◌, List, map, take}
use Rattle.capture_report.specs.Newer.{Instance, of_observation}
use Rattle.capture_report.specs.steps.Newest.{AreNewest}
use Rattle.capture_report.proofs.newer.put_observations.Given as goal

abbrev pub invariant-loop-observation : goal.invariant-loop-observation
invariant-loop-observation g l =
    (shown : List Instance) → AreNewest shown l.initial.newest → AreNewest (shown ++ map of_observation (take l.observation-index l.observations)) l.newest
