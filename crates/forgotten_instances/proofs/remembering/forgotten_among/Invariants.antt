use Rattle.std.proofs.Common.{◌≡◌, map, take}
use Rattle.forgotten_instances.specs.Forgotten.{is_forgotten}
use Rattle.forgotten_instances.proofs.Walked.{Keeps}
use Rattle.forgotten_instances.proofs.remembering.forgotten_among.Given as goal

abbrev pub invariant-loop-observation : goal.invariant-loop-observation
invariant-loop-observation g l =
    Keeps (take l.observation-index l.sorted) l.past
    × (l.forgotten.items ≡ map (is_forgotten l.sorted) (take l.observation-index l.sorted))
