-- The JSON of how a database differs from a baseline, as `differences` answers it.
use Rattle.std.specs.Prelude.{ℕ, not, List, [], ◌∷◌, ◌++◌, codes}
use Rattle.json.specs.Json.{Json, null, string}
use Rattle.lsa_codec.specs.declared.address.AreaId.{AreaId}
use Rattle.lsa_changes.specs.declared.change.LsaChange.{LsaChange}
use Rattle.lsa_changes.specs.declared.change.LsaChange.TheVariants as change
use Rattle.lsa_changes.specs.ChangeTexts.{change_text}
use Rattle.lsa_differences.specs.declared.line.AreaChange.{AreaChange}
use Rattle.lsa_differences.specs.declared.line.AreaChange.TheVariants as area_change
use Rattle.lsa_differences.specs.declared.line.DifferenceLine.{DifferenceLine}
use Rattle.lsa_differences.specs.declared.line.DifferenceLine.TheVariants as line
use Rattle.lsa_differences.specs.DifferenceTexts.{kind_text}
use Rattle.lsa_names.specs.declared.lsa_name.LsaName.{LsaName}
use Rattle.study_json.specs.Fields.{Fields, object_of}
use Rattle.study_json.specs.Leaves.{area_json, array_json, option_json}
use Rattle.study_json.specs.Unnamed.{no_names}
use Rattle.finding_json.specs.Lsas.{lsa_json}

-- ---- areas

-- the word for how an area differs
abbrev pub area_word : AreaChange → List ℕ
area_word (area_change.New is_stub) = codes "new"
area_word (area_change.Gone is_stub) = codes "gone"
area_word (area_change.Kind is_stub) = codes "changed"

-- its kind, or both kinds
abbrev pub area_what : AreaChange → List ℕ
area_what (area_change.New is_stub) = codes "kind " ++ kind_text is_stub
area_what (area_change.Gone is_stub) = codes "kind " ++ kind_text is_stub
area_what (area_change.Kind is_stub) = codes "kind " ++ kind_text (not is_stub) ++ codes " -> " ++ kind_text is_stub

abbrev pub area_json_of : AreaId → AreaChange → Json
area_json_of area change =
    object_of
    ((codes "change", string (area_word change)) ∷ (codes "area", area_json area) ∷ (codes "lsa", null)
    ∷ (codes "what", string (area_what change)) ∷ [])

-- ---- LSAs

-- the word for how an LSA differs
abbrev pub lsa_word : LsaChange → List ℕ
lsa_word (change.New detail) = codes "new"
lsa_word (change.Gone detail) = codes "gone"
lsa_word other = codes "changed"

-- what of it differs, or the detail of one that came or went
abbrev pub lsa_what : LsaChange → List ℕ
lsa_what change = change_text no_names change

abbrev pub lsa_json_of : LsaName → LsaChange → Json
lsa_json_of name change =
    object_of
    ((codes "change", string (lsa_word change)) ∷ (codes "area", option_json area_json name.area) ∷ (codes "lsa", lsa_json name)
    ∷ (codes "what", string (lsa_what change)) ∷ [])

-- ---- any difference

abbrev pub difference_json : DifferenceLine → Json
difference_json (line.Area area change) = area_json_of area change
difference_json (line.Lsa name change) = lsa_json_of name change

abbrev pub differences_reply : List DifferenceLine → Fields
differences_reply lines = (codes "differences", array_json difference_json lines) ∷ []
