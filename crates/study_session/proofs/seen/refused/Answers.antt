use Rattle.edit_history.specs.Session.{Session}
use Rattle.branches.specs.Branches.{sessions_of}
use Rattle.refusal_hints.specs.QuestionHints.{question_hint}
use Rattle.study_answers.specs.Answers.{refused_answer}
use Rattle.study_session.specs.Contexts.{context_of, situation}
use Rattle.study_session.specs.Explained.{refused_with}
use Rattle.study_session.proofs.Hinted.{by_session}
use Rattle.study_session.proofs.seen.refused.Goals as goal

pub returns-clause-answer : goal.returns-clause-answer
returns-clause-answer g c =
    let x = context_of c.args.context.now in
    by_session x (sessions_of c.args.branches.now) (sessions_of c.prepare.new.self) c.in_ok-prepare.ensures.kept c.planner-planner.result.now.session
    c.planner-planner.ensures c.refused_at.result
    (λ (s : Session). refused_with x (c.args.texts.0.now, c.args.texts.1.now) (question_hint (situation x s) x.words c.args.asked.now)
    (refused_answer x.branch (c.args.texts.0.now, c.args.texts.1.now)))
    c.refused_at.ensures
