use Rattle.std.proofs.Common.{◌≡◌, take}
use Rattle.area_graph.specs.steps.BackLinks.{targets_of}
use Rattle.area_graph.proofs.back_links.targets_of.Given as goal

abbrev pub invariant-loop-edge : goal.invariant-loop-edge
invariant-loop-edge g l = l.targets.items ≡ targets_of (take l.edge-index l.row)
