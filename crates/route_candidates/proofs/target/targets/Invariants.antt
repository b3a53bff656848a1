use Rattle.std.proofs.Common.{◌≡◌, take}
use Rattle.std.specs.List.{flat_map}
use Rattle.route_candidates.specs.Targets.{targets_of_one}
use Rattle.route_candidates.proofs.target.targets.Given as goal

-- the targets of the candidates so far
abbrev pub invariant-loop-candidate : goal.invariant-loop-candidate
invariant-loop-candidate g l = l.targets.items ≡ flat_map (targets_of_one l.view) (take l.candidate-index l.candidates)
