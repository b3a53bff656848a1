-- What a question is answered, where its answer is by something that equals what the session has.
use Rattle.std.proofs.Common.{◌≡◌, ℕ, IfOk, sym, ap, subst, ◌∙◌}
use Rattle.std.specs.Prelude.{Result}
use Rattle.std.proofs.lemmas.Result.{IfOk-weaker}
use Rattle.lsdb.specs.Lists.{Lists}
use Rattle.edit_history.specs.Session.{Session, state}
use Rattle.branches.specs.Branches.{Sessions}
use Rattle.study_script.specs.declared.question.Question.{Question}
use Rattle.study_text.specs.Shown.{Called}
use Rattle.study_answers.specs.Answers.{AnswerValue}
use Rattle.study_questions.specs.Questions.{IsQuestionAnswer}

module _ (called : Called) (baseline : Lists) (branch : ℕ) where
  pub asked : {E X : Type 0} (s : Session) (result : Result AnswerValue E) (given question : Question) (x y : X) (IsAnswer : X → AnswerValue → Type 0)
      → given ≡ question → x ≡ y → ((answer : AnswerValue) → IsAnswer y answer → IsQuestionAnswer called baseline branch s question answer)
      → IfOk result (IsAnswer x) → IfOk result (IsQuestionAnswer called baseline branch s given)
  asked {E} {X} s result given question x y IsAnswer is same means answered =
      subst (λ (q : Question). IfOk result (IsQuestionAnswer called baseline branch s q)) (sym is)
      (IfOk-weaker result (IsAnswer y) (IsQuestionAnswer called baseline branch s question) means
      (subst (λ (z : X). IfOk result (IsAnswer z)) same answered))

  -- by the database of a planner, after the branch was prepared
  pub by_database : {E : Type 0} (result : Result AnswerValue E) (IsAnswer : Called → ℕ → Lists → AnswerValue → Type 0)
      {given question : Question} {db : Lists} {p : Session} {before now : Sessions} → given ≡ question → db ≡ state p → p ≡ before branch → before ≡ now
      → ((answer : AnswerValue) → IsAnswer called branch (state (now branch)) answer → IsQuestionAnswer called baseline branch (now branch) question answer)
      → IfOk result (IsAnswer called branch db) → IfOk result (IsQuestionAnswer called baseline branch (now branch) given)
  by_database result IsAnswer {given} {question} {db} {p} {before} {now} is at planned kept means =
      asked (now branch) result given question db (state (now branch)) (IsAnswer called branch) is
      (at ∙ ap state (planned ∙ ap (λ (all : Sessions). all branch) kept)) means
