use Rattle.std.proofs.Common.{◌≡◌, map}
use Rattle.edit_history.specs.Fitting.{are_apart}
use Rattle.edit_history.specs.steps.Plans.{planned_change}
use Rattle.edit_history.proofs.FittingLoops.{apart_from}
use Rattle.edit_history.proofs.fitting.are_apart.Given as goal

-- the swaps so far keep apart from all later ones
abbrev pub invariant-loop-i : goal.invariant-loop-i
invariant-loop-i g l = apart_from l.database l.swaps l.i ≡ are_apart (map (planned_change l.database) l.swaps)
