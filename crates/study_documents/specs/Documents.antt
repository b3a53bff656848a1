-- The document that answers a line of a study: where the line stands, what became of it, and the reply to it.
use Rattle.std.specs.Prelude.{ℕ, List, [], ◌∷◌, ◌++◌, codes}
use Rattle.json.specs.Json.{Json, string}
use Rattle.json.specs.Tree.{members_depth}
use Rattle.study_json.specs.Fields.{Fields, members_by, object_of}
use Rattle.study_json.specs.JsonText.{json_text, member_text}
use Rattle.study_json.specs.Leaves.{number_json}

-- the line of a file
abbrev pub place_fields : List ℕ → ℕ → Fields
place_fields file line = (codes "file", string file) ∷ (codes "line", number_json line) ∷ []

-- the branch and the word of a line, and what became of it
abbrev pub front_fields : ℕ → List ℕ → List ℕ → Fields
front_fields branch word answer =
    (codes "branch", number_json branch) ∷ (codes "word", string word) ∷ (codes "answer", string answer) ∷ []

-- the document of a line that is carried out, or is refused, with the members of its reply
abbrev pub document_of : List ℕ → ℕ → ℕ → List ℕ → List ℕ → Fields → Json
document_of file line branch word answer reply = object_of (place_fields file line ++ front_fields branch word answer ++ reply)

-- the document of a line that has a fault
abbrev pub fault_document : List ℕ → ℕ → Fields → Json
fault_document file line reply = object_of (place_fields file line ++ (codes "answer", string (codes "fault")) ∷ reply)

-- ---- texts

-- a member after a comma
abbrev pub next_text : List ℕ → Json → List ℕ
next_text key value = codes "," ++ member_text key (json_text value)

-- where a document begins
abbrev pub place_text : List ℕ → ℕ → List ℕ
place_text file line = (codes "{" ++ member_text (codes "file") (json_text (string file))) ++ next_text (codes "line") (number_json line)

abbrev pub front_text : ℕ → List ℕ → List ℕ → List ℕ
front_text branch word answer =
    next_text (codes "branch") (number_json branch) ++ (next_text (codes "word") (string word) ++ next_text (codes "answer") (string answer))

-- how deep arrays and objects nest in members
abbrev pub fields_depth : Fields → ℕ
fields_depth fields = members_depth (members_by fields)
