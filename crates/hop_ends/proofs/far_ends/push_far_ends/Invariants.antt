use Rattle.std.proofs.Common.{◌≡◌, ◌++◌, take}
use Rattle.std.specs.List.{filter_map}
use Rattle.hop_ends.specs.steps.Rows.{end_over}
use Rattle.hop_ends.proofs.far_ends.push_far_ends.Given as goal

-- those of the edges so far were added
abbrev pub invariant-loop-edge : goal.invariant-loop-edge
invariant-loop-edge g l = l.found.items ≡ l.initial.found.items ++ filter_map (end_over l.graph l.interface) (take l.edge-index l.edge-items)
