use Rattle.std.proofs.Common.{◌≡◌, map, take}
use Rattle.audit_areas.specs.Groups.{grouped}
use Rattle.audit_areas.proofs.groups.grouped.Given as goal

-- the groups of the pairs so far
abbrev pub invariant-loop-pair : goal.invariant-loop-pair
invariant-loop-pair g l = map (λ p. (p.0, p.1.items)) l.groups.items ≡ grouped g.K.PartialEq.eq (take l.pair-index l.pairs)
