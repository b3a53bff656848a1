use Rattle.std.proofs.Common.{◌≡◌, ◌++◌, take}
use Rattle.std.specs.Prelude.{flat_map}
use Rattle.change_lines.specs.ChangeTexts.{group_count}
use Rattle.change_lines.proofs.changes.push_group_counts.Given as goal

-- the numbers of the groups so far were added
abbrev pub invariant-loop-group : goal.invariant-loop-group
invariant-loop-group g l = l.text.items ≡ l.initial.text.items ++ flat_map (group_count l.names) (take l.group-index l.groups)
