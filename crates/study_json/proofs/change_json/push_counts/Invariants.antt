use Rattle.std.proofs.Common.{◌≡◌, ◌++◌, take, codes, decimal}
use Rattle.std.specs.Prelude.{flat_map}
use Rattle.change_lines.specs.Groups.{count_of, group_text}
use Rattle.study_json.specs.Changes.{count_fields}
use Rattle.study_json.specs.Fields.{HaveNumbers}
use Rattle.study_json.specs.JsonText.{member_text}
use Rattle.study_json.proofs.change_json.push_counts.Given as goal

-- the numbers of the groups so far were added
abbrev pub invariant-loop-group : goal.invariant-loop-group
invariant-loop-group g l = record {
  pushed : l.text.items ≡ l.initial.text.items
      ++ flat_map (λ group. member_text (group_text group) (decimal (count_of group l.names)) ++ codes ",") (take l.group-index l.groups);
  numbers : HaveNumbers (count_fields l.names (take l.group-index l.groups));
}
