-- The texts of changes.
use Rattle.std.specs.Prelude.{ℕ, List, ◌++◌, map, option_map, length, flat_map, Option, codes, decimal}
use Rattle.lsa_codec.specs.Prefix.{Net}
use Rattle.lsa_codec.specs.declared.address.RouterId.{RouterId}
use Rattle.lsa_codec.specs.Spelling.{prefix_text}
use Rattle.study_text.specs.Lists.{after_word, first_three}
use Rattle.study_text.specs.Shown.{Called, shown}
use Rattle.route_lines.specs.RouteLines.{RouteLineValue}
use Rattle.route_lines.specs.RouteTexts.{route_text}
use Rattle.change_lines.specs.declared.change_name.ChangeName.{ChangeName}
use Rattle.change_lines.specs.declared.group.ChangeGroup.{ChangeGroup}
use Rattle.change_lines.specs.Groups.{change_groups, count_of, group_text}

-- a change, with the route of now and the one before
pub record ChangeLineValue : Type 0 where
  pub name : ChangeName
  pub now : Option RouteLineValue
  pub was : Option RouteLineValue

-- what differs by name, and the number of prefixes for which nothing does
pub record ChangesValue : Type 0 where
  pub names : List ChangeName
  pub unchanged : ℕ

-- a router, and a prefix after a space, if there is one
abbrev pub at_text : Called → RouterId → Option Net → List ℕ
at_text called router net = shown called router ++ after_word (codes " ") (option_map prefix_text net)

-- group, router and prefix
abbrev pub name_text : Called → ChangeName → List ℕ
name_text called name = group_text name.group ++ codes " " ++ at_text called name.router name.net

-- a route after a word, if there is one
abbrev pub route_after : Called → List ℕ → Option RouteLineValue → List ℕ
route_after called word route = after_word word (option_map (route_text called) route)

-- the line of a change
abbrev pub change_text : Called → ChangeLineValue → List ℕ
change_text called line = name_text called line.name ++ route_after called (codes " ") line.now ++ route_after called (codes " was ") line.was

-- ---- counts

abbrev pub group_count : List ChangeName → ChangeGroup → List ℕ
group_count names group = codes " " ++ group_text group ++ codes " " ++ decimal (count_of group names)

-- the number of changes of each of some groups, and of prefixes without one
unfoldable pub counts_of : List ChangeName → List ChangeGroup → ℕ → List ℕ
counts_of names groups unchanged = flat_map (group_count names) groups ++ codes " unchanged " ++ decimal unchanged

-- the same of all groups
abbrev pub counts_text : ChangesValue → List ℕ
counts_text changes = counts_of changes.names change_groups changes.unchanged

-- ---- what was found

-- a word and a number
unfoldable pub counted : List ℕ → ℕ → List ℕ
counted word count = word ++ codes " " ++ decimal count

-- the number of changes, and the first of them
abbrev pub changes_found : Called → List ChangeName → List ℕ
changes_found called names = counted (codes "changes") (length names) ++ first_three (map (name_text called) names)
