-- What the lines of studies are answered, and what a run writes of it.
use Rattle.std.specs.Prelude.{◌≡◌, ◌⊎◌, ℕ, ◌==◌, ◌&&◌, ◌||◌, Bool, true, false, if◌then◌else◌, List, [], ◌∷◌, ◌++◌, length, count_by, Option, None, Some, codes, decimal}
use Rattle.std.specs.List.{flat_map, list_all}
use Rattle.lsdb.specs.Text.{text}
use Rattle.study_answers.specs.declared.answer.Outcome.{Outcome}
use Rattle.study_answers.specs.declared.answer.Outcome.TheVariants.{Accepted, Refused, Failed}
use Rattle.study_answers.specs.Answers.{AnswerValue}
use Rattle.study_documents.specs.Documents.{place_text as document_place}
use Rattle.study_documents.specs.Summary.{summary_json}
use Rattle.study_json.specs.JsonText.{json_text}
use Rattle.study_session.specs.Formats.{in_format}
use Rattle.study_session.specs.declared.format.Format.{Format}
use Rattle.study_session.specs.Studies.{Study, database_in}
use Rattle.study_session.specs.Lines.{IsAnswerTo, after_line}
use Rattle.whole_study.specs.Lines.{Line, place_text}
use Rattle.whole_study.specs.declared.summary.Summary.{Summary}

-- ---- lines and their answers

-- a line that has an answer, the answer, and its form
pub record Answered : Type 0 where
  pub line : Line
  pub answer : AnswerValue
  pub format : Format

abbrev pub answered_line : Format → Line → Option AnswerValue → List Answered
answered_line format line None = []
answered_line format line (Some answer) = record { line = line; answer = answer; format = format } ∷ []

-- what lines are answered, in order, each after those before it
unfoldable pub AreAnswered : Study → List Line → List Answered → Type 0
AreAnswered s [] given = given ≡ []
AreAnswered s (line ∷ lines) given =
    (first : Option AnswerValue) × ((rest : List Answered)
    × (IsAnswerTo s line.text first × (AreAnswered (after_line s line.text) lines rest × (given ≡ answered_line s.format line first ++ rest))))

-- the study after lines
unfoldable pub study_after : Study → List Line → Study
study_after s [] = s
study_after s (line ∷ lines) = study_after (after_line s line.text) lines

abbrev pub was_accepted : Outcome → Bool
was_accepted Accepted = true
was_accepted Refused = false
was_accepted Failed = false

abbrev pub was_refused : Outcome → Bool
was_refused Accepted = false
was_refused Refused = true
was_refused Failed = false

abbrev pub was_failed : Outcome → Bool
was_failed Accepted = false
was_failed Refused = false
was_failed Failed = true

abbrev pub is_accepted : Answered → Bool
is_accepted answered = was_accepted answered.answer.outcome

-- ---- where a run stops

-- a run goes on after these answers: it keeps going, or all lines were accepted
abbrev pub goes_on : Bool → List Answered → Bool
goes_on keep_going given = keep_going || list_all is_accepted given

-- the last of these answers is the only one whose line is not accepted
pub record StopsAtLast (given : List Answered) : Type 0 where
  pub front : List Answered
  pub last : Answered
  pub split : given ≡ front ++ last ∷ []
  pub before : list_all is_accepted front ≡ true
  pub stops : is_accepted last ≡ false

-- where lines are left, a run that does not keep going has stopped
abbrev pub IsStop : Bool → List Line → List Answered → Type 0
IsStop keep_going left given = ((left ≡ []) × (goes_on keep_going given ≡ true)) ⊎ ((keep_going ≡ false) × StopsAtLast given)

-- what a run gives of lines: the answers of all of them, or of those up to the one where it stops
pub record Gives (keep_going : Bool) (s : Study) (lines : List Line) (given : List Answered) : Type 0 where
  pub front : List Line
  pub left : List Line
  pub split : lines ≡ front ++ left
  pub answered : AreAnswered s front given
  pub stop : IsStop keep_going left given

-- the answers of the first of these lines, which a run gives before it ends early
pub record GivesFirst (keep_going : Bool) (s : Study) (lines : List Line) (given : List Answered) : Type 0 where
  pub front : List Line
  pub left : List Line
  pub split : lines ≡ front ++ left
  pub answered : AreAnswered s front given
  pub stop : (goes_on keep_going given ≡ true) ⊎ StopsAtLast given

-- ---- what is written

-- the document of a line: its place, and what it is answered
abbrev pub document_text : Line → List ℕ → List ℕ
document_text line text = document_place line.file line.number ++ text ++ codes "\n"

-- the reply to a line: a text, or a document
abbrev pub reply_of : Answered → List ℕ
reply_of answered = in_format answered.format answered.answer.text (document_text answered.line answered.answer.text)

-- the replies, one after another
abbrev pub replies_of : List Answered → List ℕ
replies_of given = flat_map reply_of given

-- the line for standard error of a line that is not accepted: its place, and what is wrong
abbrev pub error_line : Answered → List ℕ
error_line answered = if is_accepted answered then [] else place_text answered.line ++ answered.answer.error ++ codes "\n"

abbrev pub errors_of : List Answered → List ℕ
errors_of given = flat_map error_line given

-- ---- the summary

abbrev pub summary_of : List Answered → Summary
summary_of given = record {
  lines = length given;
  refused = count_by (λ answered. was_refused answered.answer.outcome) given;
  expectations = count_by (λ answered. answered.answer.is_expectation) given;
  failed = count_by (λ answered. was_failed answered.answer.outcome) given;
}

-- whether no line was refused, and no expectation failed
abbrev pub has_passed : Summary → Bool
has_passed summary = (summary.refused == 0) && (summary.failed == 0)

abbrev pub result_word : Bool → List ℕ
result_word true = codes "ok"
result_word false = codes "failed"

-- a word, and after it a number
abbrev pub with_count : List ℕ → ℕ → List ℕ
with_count word count = word ++ decimal count

unfoldable pub counts_text : Summary → List ℕ
counts_text summary =
    with_count (codes " lines ") summary.lines ++ with_count (codes " refused ") summary.refused
    ++ with_count (codes " expectations ") summary.expectations ++ with_count (codes " failed ") summary.failed

-- `study RESULT lines N refused N expectations N failed N`
abbrev pub summary_text : Summary → List ℕ
summary_text summary = codes "study " ++ result_word (has_passed summary) ++ counts_text summary ++ codes "\n"

-- the same as a document
abbrev pub summary_document : Summary → List ℕ
summary_document summary =
    json_text (summary_json (has_passed summary) summary.lines summary.refused summary.expectations summary.failed) ++ codes "\n"

-- the summary in a form of answers
abbrev pub summary_in : Format → Summary → List ℕ
summary_in format summary = in_format format (summary_text summary) (summary_document summary)

-- the replies, and the summary as the last line
abbrev pub whole_replies : Format → List Answered → List ℕ
whole_replies format given = replies_of given ++ summary_in format (summary_of given)

-- ---- what is left

-- the dump of branch 0
abbrev pub dump_of : Study → List ℕ
dump_of s = text (database_in s 0)

-- the dump of branch 0 after lines, where it is wanted and all of them were accepted
abbrev pub dump_left : Bool → Study → List Line → List Answered → Option (List ℕ)
dump_left wants_dump s lines given = if wants_dump && list_all is_accepted given then Some (dump_of (study_after s lines)) else None
