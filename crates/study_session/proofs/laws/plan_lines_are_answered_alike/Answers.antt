use Rattle.std.proofs.Common.{Some, ap, subst, ◌∙◌}
use Rattle.study_answers.specs.Answers.{AnswerValue}
use Rattle.study_session.specs.Lines.{IsAnswerBy, IsAnswerIn, IsAnswerTo, after_line, sessions_by, sessions_in}
use Rattle.study_session.specs.Contexts.{context_in}
use Rattle.study_session.proofs.PlanText.{quiet_text}
use Rattle.study_session.proofs.laws.plan_lines_are_answered_alike.Goals as goal

pub returns : goal.returns
unfolding IsAnswerTo IsAnswerIn after_line sessions_in
returns c = record {
  text = λ s line branch command answer quiet are_texts is_plan is_answer.
      ap (λ (a : AnswerValue). a.text)
      (subst (λ r. IsAnswerBy s line r (Some answer)) (c.plan_lines_mean_the_same.ensures.taken s.lookup line branch command is_plan) is_answer)
      ∙ quiet_text (context_in s branch line) are_texts (s.sessions branch) command
      ((c.reads_what_is_said.ensures line branch command).0 is_plan).0 quiet;
  sessions = λ s line branch command is_plan.
      ap (λ r. sessions_by r s.sessions) (c.plan_lines_mean_the_same.ensures.taken s.lookup line branch command is_plan);
}
