use Rattle.std.proofs.Common.{◌≡◌, take}
use Rattle.std.specs.Prelude.{flat_map}
use Rattle.change_lines.specs.Groups.{in_group}
use Rattle.change_lines.proofs.changes.by_group.Given as goal

-- the changes of the groups so far
abbrev pub invariant-loop-group : goal.invariant-loop-group
invariant-loop-group g l = l.found.items ≡ flat_map (λ group. in_group group l.names) (take l.group-index l.groups)
