use Rattle.std.proofs.Common.{take}
use Rattle.least_paths.specs.steps.Marks.{IsReachedTarget, Marks}
use Rattle.least_paths.proofs.marks.mark_targets.Given as goal

-- the targets so far are marked
abbrev pub invariant-loop-target : goal.invariant-loop-target
invariant-loop-target g l = Marks (IsReachedTarget l.graph l.tree.distances (take l.target-index l.targets)) l.initial.marks l.marks
