-- The JSON of what audits find, as `audit` answers it.
use Rattle.std.specs.Prelude.{List, [], ◌∷◌, length, codes}
use Rattle.json.specs.Json.{Json, null, string}
use Rattle.study_words.specs.declared.audit_kind.AuditKind.{AuditKind}
use Rattle.study_words.specs.AuditKinds.{audit_kind_text}
use Rattle.audit_places.specs.Places.{PlaceValue}
use Rattle.audit_places.specs.Texts.{place_text}
use Rattle.audit_report.specs.Expected.{wrong_counts}
use Rattle.audit_report.specs.Findings.{FindingValue}
use Rattle.audit_report.specs.Meanings.{action_text, class_of, class_text, meaning_text}
use Rattle.study_json.specs.Fields.{Fields, object_of}
use Rattle.study_json.specs.Leaves.{array_json, number_json}
use Rattle.study_json.specs.Unnamed.{no_names}

-- the text of a place, with Router IDs
abbrev pub place_json : PlaceValue → Json
place_json place = string (place_text no_names place)

-- the first place, if there is one
abbrev pub first_json : List PlaceValue → Json
first_json [] = null
first_json (place ∷ places) = place_json place

abbrev pub class_json : AuditKind → Json
class_json kind = string (class_text (class_of kind))

abbrev pub audit_kind_json : AuditKind → Json
audit_kind_json kind = string (audit_kind_text kind)

-- what a kind means, and what is to be done
abbrev pub meaning_fields : AuditKind → Fields
meaning_fields kind = (codes "meaning", string (meaning_text kind)) ∷ (codes "action", string (action_text kind)) ∷ []

abbrev pub found_json_of : AuditKind → List PlaceValue → Json
found_json_of kind places =
    object_of
    ((codes "class", class_json kind) ∷ (codes "kind", audit_kind_json kind) ∷ (codes "count", number_json (length places))
    ∷ (codes "first", first_json places) ∷ meaning_fields kind)

abbrev pub found_json : FindingValue → Json
found_json f = found_json_of f.kind f.places

-- the kinds that have a place, and how many of them can make a table wrong
abbrev pub findings_reply : List FindingValue → Fields
findings_reply findings =
    (codes "wrong", number_json (length (wrong_counts findings))) ∷ (codes "findings", array_json found_json findings) ∷ []

-- the places of a kind
abbrev pub places_reply : AuditKind → List PlaceValue → Fields
places_reply kind places =
    (codes "kind", audit_kind_json kind) ∷ (codes "class", class_json kind) ∷ (codes "places", array_json place_json places) ∷ []
