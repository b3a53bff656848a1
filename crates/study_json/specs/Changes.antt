-- The JSON of what differs from a baseline, as `changes`, `lost` and `gone` answer it.
use Rattle.std.specs.Prelude.{List, [], ◌∷◌, ◌++◌, map, codes}
use Rattle.json.specs.Json.{Json, string}
use Rattle.change_lines.specs.declared.change_name.ChangeName.{ChangeName}
use Rattle.change_lines.specs.declared.group.ChangeGroup.{ChangeGroup}
use Rattle.change_lines.specs.ChangeTexts.{ChangeLineValue, ChangesValue}
use Rattle.change_lines.specs.Groups.{change_groups, count_of, group_text}
use Rattle.change_lines.specs.PairTexts.{PairLineValue}
use Rattle.study_json.specs.Fields.{Fields, object_of}
use Rattle.study_json.specs.Leaves.{array_json, number_json, option_json, prefix_json, router_json}
use Rattle.study_json.specs.Routes.{route_json}

abbrev pub group_json : ChangeGroup → Json
group_json group = string (group_text group)

abbrev pub change_json : ChangeLineValue → Json
change_json line =
    object_of
    ((codes "change", group_json line.name.group) ∷ (codes "router", router_json line.name.router)
    ∷ (codes "prefix", option_json prefix_json line.name.net) ∷ (codes "now", option_json route_json line.now)
    ∷ (codes "was", option_json route_json line.was) ∷ [])

-- how many changes of each of some groups there are
abbrev pub count_fields : List ChangeName → List ChangeGroup → Fields
count_fields names groups = map (λ group. (group_text group, number_json (count_of group names))) groups

-- the same of all groups, and of prefixes without a change
abbrev pub counts_json : ChangesValue → Json
counts_json changes =
    object_of (count_fields changes.names change_groups ++ (codes "unchanged", number_json changes.unchanged) ∷ [])

abbrev pub pair_json : PairLineValue → Json
pair_json line =
    object_of
    ((codes "router", router_json line.pair.router) ∷ (codes "prefix", prefix_json line.pair.net)
    ∷ (codes "was", option_json route_json line.was) ∷ (codes "announced", array_json router_json line.announced) ∷ [])
