use Rattle.std.proofs.Common.{◌≡◌, ◌++◌, take}
use Rattle.std.specs.List.{flat_map}
use Rattle.route_candidates.specs.Targets.{border_targets_in}
use Rattle.route_candidates.proofs.target.push_all_borders.Given as goal

-- those of the areas so far
abbrev pub invariant-loop-view : goal.invariant-loop-view
invariant-loop-view g l = l.targets.items ≡ l.initial.targets.items ++ flat_map (border_targets_in l.entry) (take l.view-index l.views)
