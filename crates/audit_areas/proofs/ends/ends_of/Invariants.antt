use Rattle.std.proofs.Common.{◌≡◌, map, take}
use Rattle.audit_areas.specs.steps.Ends.{end_at}
use Rattle.audit_areas.proofs.ends.ends_of.Given as goal

-- the ends of the edges so far
abbrev pub invariant-loop-edge : goal.invariant-loop-edge
invariant-loop-edge g l = l.ends.items ≡ map (end_at l.graph) (take l.edge-index l.edges)
