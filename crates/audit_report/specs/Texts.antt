-- The texts of findings.
use Rattle.std.specs.Prelude.{ℕ, List, [], ◌∷◌, ◌++◌, codes}
use Rattle.study_text.specs.Lists.{lines_of}
use Rattle.study_text.specs.Shown.{Called}
use Rattle.audit_places.specs.Places.{PlaceValue}
use Rattle.audit_places.specs.Texts.{place_text}
use Rattle.audit_report.specs.Expected.{count_text, kind_count}
use Rattle.audit_report.specs.Findings.{FindingValue}
use Rattle.audit_report.specs.Meanings.{action_text, class_of, class_text, meaning_text}

-- the first of some places, if there is one
abbrev pub first_text : Called → List PlaceValue → List ℕ
first_text called [] = []
first_text called (place ∷ places) = codes " " ++ place_text called place

-- what the findings of a kind mean, and what to do
abbrev pub meant_text : FindingValue → List ℕ
meant_text f = codes ": " ++ meaning_text f.kind ++ codes "; " ++ action_text f.kind

-- the class of a kind, the kind, and how many places it has
abbrev pub counted_text : FindingValue → List ℕ
counted_text f = class_text (class_of f.kind) ++ codes " " ++ count_text (kind_count f)

-- the line of a kind: the same, the first of its places, and what it means
abbrev pub finding_line : Called → FindingValue → List ℕ
finding_line called f = counted_text f ++ first_text called f.places ++ meant_text f

-- the lines of `audit`
abbrev pub finding_lines : Called → List FindingValue → List ℕ
finding_lines called findings = lines_of (finding_line called) findings

-- the lines of `audit` with a kind
abbrev pub place_lines : Called → List PlaceValue → List ℕ
place_lines called places = lines_of (place_text called) places
