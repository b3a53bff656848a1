use Rattle.std.proofs.Common.{◌≡◌, false, take}
use Rattle.std.specs.List.{list_any}
use Rattle.least_paths.specs.steps.Marks.{leads_on}
use Rattle.least_paths.proofs.marks.some_leads_on.Given as goal

-- no edge so far leads on
abbrev pub invariant-loop-edge : goal.invariant-loop-edge
invariant-loop-edge g l = list_any (leads_on l.tree.distances l.marks l.distance) (take l.edge-index l.edge-items) ≡ false
