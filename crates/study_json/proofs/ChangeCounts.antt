-- How many changes of each group there are: the text of these members, one after another.
use Rattle.std.proofs.Common.{◌≡◌, ℕ, ◌+◌, ◌<◌, List, [], ◌∷◌, ◌++◌, codes, decimal, length, get_or, take, sym, ap, subst, ◌∙◌}
use Rattle.std.specs.Prelude.{flat_map}
use Rattle.std.proofs.lemmas.List.{append_assoc, flat_map_more, take_more}
use Rattle.json.specs.Json.{Json}
use Rattle.change_lines.specs.declared.change_name.ChangeName.{ChangeName}
use Rattle.change_lines.specs.declared.group.ChangeGroup.{ChangeGroup}
use Rattle.change_lines.specs.ChangeTexts.{ChangesValue}
use Rattle.change_lines.specs.Groups.{change_groups, count_of, group_text}
use Rattle.study_json.specs.Changes.{count_fields, counts_json}
use Rattle.study_json.specs.Fields.{HaveNumbers, object_of}
use Rattle.study_json.specs.JsonText.{json_text, member_text, string_text}
use Rattle.study_json.specs.Leaves.{number_json}
use Rattle.study_json.proofs.Members.{commas_moved}

module _ (names : List ChangeName) where
  -- the member of a group, and a comma
  abbrev pub count_text : ChangeGroup → List ℕ
  count_text group = member_text (group_text group) (decimal (count_of group names)) ++ codes ","

  -- the group at place i, after those so far
  pub count_more : (start : List ℕ) (groups : List ChangeGroup) (i : ℕ) (d : ChangeGroup) (before now : List ℕ) → i < length groups
      → before ≡ start ++ flat_map count_text (take i groups) → now ≡ before ++ count_text (get_or groups i d)
      → now ≡ start ++ flat_map count_text (take (i + 1) groups)
  count_more start groups i d before now lt are shown =
      shown ∙ ap (λ (l : List ℕ). l ++ count_text (get_or groups i d)) are ∙ flat_map_more count_text start (take i groups) (get_or groups i d)
      ∙ ap (λ (those : List ChangeGroup). start ++ flat_map count_text those) (sym (take_more groups i d lt))

  numbers_push : (groups : List ChangeGroup) (group : ChangeGroup) → HaveNumbers (count_fields names groups)
      → HaveNumbers (count_fields names (group ∷ [])) → HaveNumbers (count_fields names (groups ++ group ∷ []))
  numbers_push [] group h k = k
  numbers_push (x ∷ xs) group h k = (h.0, numbers_push xs group h.1 k)

  pub count_numbers : (groups : List ChangeGroup) (i : ℕ) (d : ChangeGroup) → i < length groups
      → HaveNumbers (count_fields names (take i groups)) → HaveNumbers (count_fields names (get_or groups i d ∷ []))
      → HaveNumbers (count_fields names (take (i + 1) groups))
  count_numbers groups i d lt so_far one =
      subst (λ (those : List ChangeGroup). HaveNumbers (count_fields names those)) (sym (take_more groups i d lt))
      (numbers_push (take i groups) (get_or groups i d) so_far one)

module _ (old brace counts key colon value end : List ℕ) where
  in_order : ((((((old ++ brace) ++ counts) ++ key) ++ colon) ++ value) ++ end) ≡ old ++ (brace ++ (counts ++ ((key ++ (colon ++ value)) ++ end)))
  in_order = simp append_assoc

abbrev group_field : List ChangeName → ChangeGroup → List ℕ × Json
group_field names group = (group_text group, number_json (count_of group names))

abbrev unchanged_field : ℕ → List ℕ × Json
unchanged_field n = (codes "unchanged", number_json n)

-- the object of the counts of some groups, and of prefixes without a change
abbrev object_text : List ChangeName → List ChangeGroup → ℕ → List ℕ
object_text names groups unchanged = json_text (object_of (count_fields names groups ++ (codes "unchanged", number_json unchanged) ∷ []))

pub counts_shown : (changes : ChangesValue) (names : List ChangeName) (groups : List ChangeGroup) (unchanged : ℕ)
    (old begun counted keyed marked valued now : List ℕ) → names ≡ changes.names → groups ≡ change_groups → unchanged ≡ changes.unchanged
    → begun ≡ old ++ codes "{" → counted ≡ begun ++ flat_map (count_text names) groups → keyed ≡ counted ++ string_text (codes "unchanged")
    → marked ≡ keyed ++ codes ":" → valued ≡ marked ++ decimal unchanged → now ≡ valued ++ codes "}"
    → now ≡ old ++ json_text (counts_json changes)
counts_shown changes names groups unchanged old begun counted keyed marked valued now same all rest begins counts keys marks values ends =
    let key = string_text (codes "unchanged") in
    let parts = flat_map (count_text names) groups in
    ends
    ∙ ap (λ (l : List ℕ). l ++ codes "}")
    (values ∙ ap (λ (l : List ℕ). l ++ decimal unchanged)
    (marks ∙ ap (λ (l : List ℕ). l ++ codes ":") (keys ∙ ap (λ (l : List ℕ). l ++ key) (counts ∙ ap (λ (l : List ℕ). l ++ parts) begins))))
    ∙ in_order old (codes "{") parts key (codes ":") (decimal unchanged) (codes "}")
    ∙ ap (λ (l : List ℕ). old ++ (codes "{" ++ l)) (sym (commas_moved (group_field names) (unchanged_field unchanged) [] groups))
    ∙ ap (λ (those : List ChangeName). old ++ object_text those groups unchanged) same
    ∙ ap (λ (those : List ChangeGroup). old ++ object_text changes.names those unchanged) all
    ∙ ap (λ (n : ℕ). old ++ object_text changes.names change_groups n) rest
