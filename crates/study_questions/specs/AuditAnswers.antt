-- The answers about what the answers may not be trusted for.
use Rattle.std.specs.Prelude.{ℕ, List, ◌++◌, length, Option, None, Some, codes}
use Rattle.lsdb.specs.Lists.{Lists}
use Rattle.study_words.specs.declared.audit_kind.AuditKind.{AuditKind}
use Rattle.study_words.specs.declared.see_word.SeeWord.TheVariants as words
use Rattle.study_words.specs.AuditKinds.{audit_kind_text}
use Rattle.study_text.specs.Shown.{Called}
use Rattle.study_text.specs.Lists.{lines_of as lines_as}
use Rattle.audit_places.specs.Places.{PlaceValue}
use Rattle.audit_places.specs.Texts.{place_text}
use Rattle.audit_report.specs.Expected.{wrong_counts}
use Rattle.audit_report.specs.Findings.{FindingValue, audit, places_of}
use Rattle.audit_report.specs.Texts.{finding_line}
use Rattle.study_answers.specs.Answers.{AnswerValue, accepted_answer}
use Rattle.study_questions.specs.Texts.{head_of, number_after}
use Rattle.study_questions.specs.Listings.{counted}

-- what the word says in a branch, whose session began at a database
module _ (called : Called) (branch : ℕ) where
  -- the kinds that have a place, and how many of them can make a table wrong
  abbrev pub findings_reply : List FindingValue → List ℕ
  findings_reply findings =
      head_of branch words.Audit ++ number_after (length findings) ++ codes " wrong" ++ number_after (length (wrong_counts findings)) ++ codes "\n"
      ++ lines_as (finding_line called) findings

  -- the places of a kind
  abbrev pub places_reply : AuditKind → List PlaceValue → List ℕ
  places_reply kind places = head_of branch words.Audit ++ (codes " " ++ audit_kind_text kind) ++ counted (place_text called) places

  unfoldable pub findings_answer : Lists → Lists → AnswerValue
  findings_answer loaded db = accepted_answer (findings_reply (audit loaded db))

  unfoldable pub places_answer : AuditKind → Lists → Lists → AnswerValue
  places_answer kind loaded db = accepted_answer (places_reply kind (places_of loaded db kind))

  unfoldable pub audit_answer : Lists → Lists → Option AuditKind → AnswerValue
  audit_answer loaded db None = findings_answer loaded db
  audit_answer loaded db (Some kind) = places_answer kind loaded db
