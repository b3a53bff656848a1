-- Areas that a line names, and what is answered where they are not there.
use Rattle.std.specs.Prelude.{◌≡◌, ℕ, ◌==◌, Bool, true, false, List, Option, None, Some, codes}
use Rattle.std.specs.List.{list_any}
use Rattle.lsa_codec.specs.declared.address.AreaId.{AreaId}
use Rattle.lsdb.specs.Lists.{Lists}
use Rattle.link_report.specs.Areas.{area_ids}
use Rattle.study_answers.specs.Answers.{AnswerValue, refused_answer}

-- one of some areas
abbrev pub is_area_among : List AreaId → AreaId → Bool
is_area_among areas area = list_any (λ other. other.0 == area.0) areas

-- the database has the area
unfoldable pub has_area : Lists → AreaId → Bool
has_area db area = is_area_among (area_ids db) area

-- the same of the area that a question is limited to, if it is
abbrev pub has_limit : Lists → Option AreaId → Bool
has_limit db None = true
has_limit db (Some area) = has_area db area

abbrev pub no_area : List ℕ × List ℕ
no_area = (codes "E1", codes "NoArea")

-- an answer that has a property; where the area is not there, it is refused
abbrev pub IfInArea : ℕ → Bool → AnswerValue → Type 0 → Type 0
IfInArea branch true answer P = P
IfInArea branch false answer P = answer ≡ refused_answer branch no_area
