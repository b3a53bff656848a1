-- Whole documents: their beginning, what became of the line, and the members of a reply.
use Rattle.std.proofs.Common.{◌≡◌, ℕ, ◌+◌, ◌<◌, ◌≤◌, List, [], ◌++◌, codes, Some, arith}
use Rattle.std.proofs.lemmas.List.{append_assoc}
use Rattle.json.specs.Json.{Json, document, max_depth, string}
use Rattle.json.specs.Tree.{HasNumbers, depth}
use Rattle.study_json.specs.Fields.{Fields, HaveNumbers, more_text}
use Rattle.study_json.specs.JsonText.{json_text, member_text}
use Rattle.study_json.specs.Leaves.{number_json}
use Rattle.study_documents.specs.Documents.{document_of, fault_document, fields_depth, front_fields, front_text, next_text, place_fields, place_text}
use Rattle.study_documents.specs.Outcomes.{fault_reply, fault_text, hint_reply}

module _ (a b c d e rest : List ℕ) where
  five : (a ++ b) ++ (c ++ (d ++ e)) ++ rest ≡ a ++ (b ++ (c ++ (d ++ (e ++ rest))))
  five = simp append_assoc

  three : (a ++ b) ++ c ++ rest ≡ a ++ (b ++ (c ++ rest))
  three = simp append_assoc

pub whole_text : (file : List ℕ) (line branch : ℕ) (word answer : List ℕ) (reply : Fields)
    → place_text file line ++ front_text branch word answer ++ more_text reply ≡ json_text (document_of file line branch word answer reply)
whole_text file line branch word answer reply =
    five (codes "{" ++ member_text (codes "file") (json_text (string file))) (next_text (codes "line") (number_json line))
    (next_text (codes "branch") (number_json branch)) (next_text (codes "word") (string word)) (next_text (codes "answer") (string answer))
    (more_text reply)

pub fault_whole : (file : List ℕ) (line : ℕ) (reply : Fields)
    → place_text file line ++ next_text (codes "answer") (string (codes "fault")) ++ more_text reply ≡ json_text (fault_document file line reply)
fault_whole file line reply =
    three (codes "{" ++ member_text (codes "file") (json_text (string file))) (next_text (codes "line") (number_json line))
    (next_text (codes "answer") (string (codes "fault"))) [] [] (more_text reply)

pub fault_members : (texts : List ℕ × List ℕ) (at hint : List ℕ) → fault_text texts ++ more_text (hint_reply at hint) ≡ more_text (fault_reply texts at hint)
fault_members texts at hint =
    append_assoc (next_text (codes "code") (string texts.0)) (next_text (codes "name") (string texts.1)) (more_text (hint_reply at hint))

module _ (read : (v : Json) → HasNumbers v → depth v ≤ max_depth → document (json_text v) ≡ Some v) where
  pub whole_read : (file : List ℕ) (line branch : ℕ) (word answer : List ℕ) (reply : Fields) → HaveNumbers (place_fields file line)
      → HaveNumbers (front_fields branch word answer) → HaveNumbers reply → fields_depth reply < max_depth
      → document (json_text (document_of file line branch word answer reply)) ≡ Some (document_of file line branch word answer reply)
  whole_read file line branch word answer reply place front numbers shallow =
      read (document_of file line branch word answer reply)
      (place.0, (place.1.0, (front.0, (front.1.0, (front.1.1.0, numbers))))) (omega arith)

  pub fault_read : (file : List ℕ) (line : ℕ) (reply : Fields) → HaveNumbers (place_fields file line) → HaveNumbers reply
      → fields_depth reply < max_depth
      → document (json_text (fault_document file line reply)) ≡ Some (fault_document file line reply)
  fault_read file line reply place numbers shallow =
      read (fault_document file line reply) (place.0, (place.1.0, (tt, numbers))) (omega arith)
