use Rattle.std.proofs.Common.{◌≡◌, ◌++◌, take}
use Rattle.std.specs.List.{filter_map}
use Rattle.least_paths.specs.steps.Rows.{least_at}
use Rattle.least_paths.proofs.edge_rows.push_row.Given as goal

-- the edges so far are added
abbrev pub invariant-loop-edge : goal.invariant-loop-edge
invariant-loop-edge g l =
    l.found.items ≡ l.initial.found.items ++ filter_map (least_at l.graph l.tree.distances l.marks l.from) (take l.edge-index l.edge-items)
