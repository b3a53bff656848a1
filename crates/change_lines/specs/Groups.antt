-- The groups of changes, in the order of a reply.
use Rattle.std.specs.Prelude.{ℕ, Bool, ◌==◌, List, [], ◌∷◌, length, flat_map, codes}
use Rattle.std.specs.List.{filter}
use Rattle.change_lines.specs.declared.group.ChangeGroup.{ChangeGroup}
use Rattle.change_lines.specs.declared.group.ChangeGroup.TheVariants.{RouterGone, RouterNew, Lost, Gone, Gained, OtherKind, Dearer, Cheaper, Moved}
use Rattle.change_lines.specs.declared.change_name.ChangeName.{ChangeName}

abbrev pub change_groups : List ChangeGroup
change_groups = RouterGone ∷ RouterNew ∷ Lost ∷ Gone ∷ Gained ∷ OtherKind ∷ Dearer ∷ Cheaper ∷ Moved ∷ []

-- as it is written
abbrev pub group_text : ChangeGroup → List ℕ
group_text RouterGone = codes "router-gone"
group_text RouterNew = codes "router-new"
group_text Lost = codes "lost"
group_text Gone = codes "gone"
group_text Gained = codes "gained"
group_text OtherKind = codes "type"
group_text Dearer = codes "dearer"
group_text Cheaper = codes "cheaper"
group_text Moved = codes "moved"

-- its place in that order
abbrev pub place_of : ChangeGroup → ℕ
place_of RouterGone = 0
place_of RouterNew = 1
place_of Lost = 2
place_of Gone = 3
place_of Gained = 4
place_of OtherKind = 5
place_of Dearer = 6
place_of Cheaper = 7
place_of Moved = 8

-- the change is of the group
abbrev pub is_of : ChangeGroup → ChangeName → Bool
is_of group name = place_of name.group == place_of group

-- the changes of a group
abbrev pub in_group : ChangeGroup → List ChangeName → List ChangeName
in_group group names = filter (is_of group) names

-- the changes in the order of groups
abbrev pub by_group : List ChangeName → List ChangeName
by_group names = flat_map (λ group. in_group group names) change_groups

-- their number
abbrev pub count_of : ChangeGroup → List ChangeName → ℕ
count_of group names = length (in_group group names)
