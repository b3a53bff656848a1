-- A refusal has the hint that is due by what is known in its branch, which was prepared for it.
use Rattle.std.proofs.Common.{◌≡◌, Result, IfOk, ap, subst, sym, ◌∙◌}
use Rattle.edit_history.specs.Session.{Session}
use Rattle.branches.specs.Branches.{Sessions}
use Rattle.study_answers.specs.Answers.{AnswerValue}
use Rattle.study_answers.specs.declared.answer.Outcome.{Outcome}
use Rattle.study_answers.specs.declared.answer.Outcome.TheVariants.{Refused}
use Rattle.refusal_hints.specs.Advice.{HintValue}
use Rattle.refusal_hints.specs.Situation.{SituationValue}
use Rattle.study_session.specs.Contexts.{ContextValue, situation}
use Rattle.study_session.specs.Explained.{explained, explained_as, with_hint}

module _ (x : ContextValue) (all now : Sessions) (kept : now ≡ all) (planner : Session) (of_branch : planner ≡ now x.branch) where
  session_is : planner ≡ all x.branch
  session_is = of_branch ∙ ap (λ (sessions : Sessions). sessions x.branch) kept

  -- an answer by the session of the branch
  pub by_session : {E : Type 0} (result : Result AnswerValue E) (answer_by : Session → AnswerValue)
      → IfOk result (λ it. it ≡ answer_by planner) → IfOk result (λ it. it ≡ answer_by (all x.branch))
  by_session result answer_by by = subst (λ (s : Session). IfOk result (λ it. it ≡ answer_by s)) session_is by

  module _ (given : SituationValue) (is_given : given ≡ situation x planner) {E : Type 0} (result : Result AnswerValue E)
      (hint_of : SituationValue → HintValue) (hint : HintValue) (answer : AnswerValue) (is : hint ≡ hint_of given) where
    known : given ≡ situation x (all x.branch)
    known = is_given ∙ ap (situation x) session_is

    -- any text that refuses a line
    pub refused_hinted : IfOk result (λ it. it ≡ with_hint hint answer) → answer.outcome ≡ Refused
        → IfOk result (λ it. it ≡ explained (hint_of (situation x (all x.branch))) answer)
    unfolding explained
    refused_hinted by refuses =
        subst (λ (o : Outcome). IfOk result (λ it. it ≡ explained_as o (hint_of (situation x (all x.branch))) answer)) (sym refuses)
        (subst (λ (h : HintValue). IfOk result (λ it. it ≡ with_hint h answer)) (is ∙ ap hint_of known) by)
