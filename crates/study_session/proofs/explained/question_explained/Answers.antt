use Rattle.std.proofs.Common.{ap, sym, ◌∙◌}
use Rattle.branches.specs.Branches.{sessions_of}
use Rattle.refusal_hints.specs.QuestionHints.{question_hint}
use Rattle.study_answers.specs.Answers.{AnswerValue}
use Rattle.refusal_hints.specs.Situation.{SituationValue}
use Rattle.study_session.specs.Contexts.{context_of}
use Rattle.study_session.proofs.Hinted.{refused_hinted}
use Rattle.study_session.proofs.explained.question_explained.Goals as goal

pub returns-in_ok-hint-in-Refused-clause-answer : goal.returns-in_ok-hint-in-Refused-clause-answer
returns-in_ok-hint-in-Refused-clause-answer g c =
    let x = context_of c.args.context.now in
    refused_hinted x (sessions_of c.args.branches.now) (sessions_of c.prepare.new.self) c.in_ok-prepare-in-Refused.ensures.kept
    c.planner.result.now.session c.planner.ensures c.situation-situation.result c.situation-situation.ensures c.with_hint.result
    (λ (s : SituationValue). question_hint s x.words c.args.question.now) c.in_ok-hint-in-Refused.hint c.args.answer
    c.in_ok-hint-in-Refused.ensures c.with_hint.ensures
    (sym (ap (λ (a : AnswerValue). a.outcome) c.answer.view_is) ∙ c.in-Refused.is)
