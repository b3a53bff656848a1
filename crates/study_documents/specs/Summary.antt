-- The last document, which counts.
use Rattle.std.specs.Prelude.{ℕ, if◌then◌else◌, Bool, [], ◌∷◌, codes}
use Rattle.json.specs.Json.{Json, string}
use Rattle.study_json.specs.Fields.{object_of}
use Rattle.study_json.specs.Leaves.{number_json}

abbrev pub counted_json : Bool → ℕ → ℕ → ℕ → ℕ → Json
counted_json has_passed lines refused expectations failed =
    object_of
    ((codes "result", string (if has_passed then codes "ok" else codes "failed")) ∷ (codes "lines", number_json lines)
    ∷ (codes "refused", number_json refused) ∷ (codes "expectations", number_json expectations) ∷ (codes "failed", number_json failed) ∷ [])

abbrev pub summary_json : Bool → ℕ → ℕ → ℕ → ℕ → Json
summary_json has_passed lines refused expectations failed =
    object_of ((codes "summary", counted_json has_passed lines refused expectations failed) ∷ [])
