-- What questions and expectations are answered, as texts and as documents.
use Rattle.std.specs.Prelude.{◌≡◌, Bool, ◌++◌, codes}
use Rattle.edit_history.specs.Session.{Session}
use Rattle.study_script.specs.Expected.{Expected}
use Rattle.study_script.specs.declared.question.Question.{Question}
use Rattle.study_answers.specs.Answers.{AnswerValue, accepted_answer, failed_answer, held_answer, refused_answer}
use Rattle.study_questions.specs.Questions.{IsQuestionAnswer}
use Rattle.study_expectations.specs.Expectations.{IsExpectationAnswer}
use Rattle.document_answers.specs.Documented.{DocumentedValue, members, refused}
use Rattle.document_answers.specs.Expectations.{IsJudged, JudgedValue, failed, held, refused as unjudged}
use Rattle.document_answers.specs.Questions.{IsQuestionDocument}
use Rattle.refusal_hints.specs.ExpectationHints.{expectation_hint}
use Rattle.refusal_hints.specs.QuestionHints.{question_hint}
use Rattle.study_session.specs.Contexts.{ContextValue, situation}
use Rattle.study_session.specs.Explained.{explained, refused_with}
use Rattle.study_session.specs.Formats.{front}
use Rattle.study_session.specs.declared.format.Format.{Format}
use Rattle.study_session.specs.declared.format.Format.TheVariants as format

module _ (x : ContextValue) (s : Session) where
  -- ---- questions

  unfoldable pub IsSeenText : Question → AnswerValue → Type 0
  IsSeenText question answer =
      (plain : AnswerValue) × IsQuestionAnswer x.called x.baseline x.branch s question plain
      × (answer ≡ explained (question_hint (situation x s) x.words question) plain)

  -- the answer with the members of a reply, or why the question is refused
  unfoldable pub documented_answer : Question → DocumentedValue → AnswerValue
  documented_answer question (members text) = accepted_answer (front x (codes "reply") ++ text)
  documented_answer question (refused texts) =
      refused_with x texts (question_hint (situation x s) x.words question) (refused_answer x.branch texts)

  unfoldable pub IsSeenDocument : Question → AnswerValue → Type 0
  IsSeenDocument question answer =
      (given : DocumentedValue) × (IsQuestionDocument x.called x.baseline s question given × (answer ≡ documented_answer question given))

  abbrev pub IsSeenAs : Format → Question → AnswerValue → Type 0
  IsSeenAs format.Text question answer = IsSeenText question answer
  IsSeenAs format.Json question answer = IsSeenDocument question answer

  -- ---- expectations

  unfoldable pub IsExpectedText : Bool → Expected → AnswerValue → Type 0
  IsExpectedText is_not what answer =
      (plain : AnswerValue) × IsExpectationAnswer x.called x.baseline x.branch s is_not what plain
      × (answer ≡ explained (expectation_hint (situation x s) x.lookup x.words what) plain)

  -- the answer by what was found, or why nothing can be said
  unfoldable pub judged_answer : Expected → JudgedValue → AnswerValue
  judged_answer what (unjudged texts) =
      refused_with x texts (expectation_hint (situation x s) x.lookup x.words what) (refused_answer x.branch texts)
  judged_answer what (held text) = record (held_answer x.branch) { text = front x (codes "ok") ++ text }
  judged_answer what (failed text shown) = record (failed_answer x.branch shown) { text = front x (codes "failed") ++ text }

  unfoldable pub IsExpectedDocument : Bool → Expected → AnswerValue → Type 0
  IsExpectedDocument is_not what answer =
      (given : JudgedValue) × (IsJudged x.called x.baseline s is_not what given × (answer ≡ judged_answer what given))

  abbrev pub IsExpectedAs : Format → Bool → Expected → AnswerValue → Type 0
  IsExpectedAs format.Text is_not what answer = IsExpectedText is_not what answer
  IsExpectedAs format.Json is_not what answer = IsExpectedDocument is_not what answer
