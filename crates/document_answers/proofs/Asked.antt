-- What a question is answered in a document, where its answer is by something that equals what the session has.
use Rattle.std.proofs.Common.{◌≡◌, IfOk, sym, ap, subst, ◌∙◌}
use Rattle.std.specs.Prelude.{Result}
use Rattle.std.proofs.lemmas.Result.{IfOk-weaker}
use Rattle.lsdb.specs.Lists.{Lists}
use Rattle.edit_history.specs.Session.{Session, state}
use Rattle.study_script.specs.declared.question.Question.{Question}
use Rattle.study_text.specs.Shown.{Called}
use Rattle.document_answers.specs.Documented.{DocumentedValue}
use Rattle.document_answers.specs.Questions.{IsQuestionDocument}

module _ (called : Called) (baseline : Lists) {T E : Type 0} (value : T → DocumentedValue) (result : Result T E) where
  pub asked : {X : Type 0} (s : Session) (given question : Question) (x y : X) (IsAnswer : X → DocumentedValue → Type 0)
      → given ≡ question → x ≡ y → ((d : DocumentedValue) → IsAnswer y d → IsQuestionDocument called baseline s question d)
      → IfOk result (λ t. IsAnswer x (value t)) → IfOk result (λ t. IsQuestionDocument called baseline s given (value t))
  asked {X} s given question x y IsAnswer is same means answered =
      subst (λ (q : Question). IfOk result (λ t. IsQuestionDocument called baseline s q (value t))) (sym is)
      (IfOk-weaker result (λ t. IsAnswer y (value t)) (λ t. IsQuestionDocument called baseline s question (value t)) (λ t. means (value t))
      (subst (λ (z : X). IfOk result (λ t. IsAnswer z (value t))) same answered))

  -- by the database of a planner, after the branch was prepared
  pub by_database : (IsAnswer : Lists → DocumentedValue → Type 0) {given question : Question} {db : Lists} {p s : Session} → given ≡ question
      → db ≡ state p → p ≡ s → ((d : DocumentedValue) → IsAnswer (state s) d → IsQuestionDocument called baseline s question d)
      → IfOk result (λ t. IsAnswer db (value t)) → IfOk result (λ t. IsQuestionDocument called baseline s given (value t))
  by_database IsAnswer {given} {question} {db} {p} {s} is at planned means = asked s given question db (state s) IsAnswer is (at ∙ ap state planned) means
