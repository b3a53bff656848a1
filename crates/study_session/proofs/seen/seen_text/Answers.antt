use Rattle.std.proofs.Common.{◌∙◌, ap}
use Rattle.std.proofs.lemmas.Result.{IfOk-weaker}
use Rattle.branches.specs.Branches.{Sessions}
use Rattle.refusal_hints.specs.QuestionHints.{question_hint}
use Rattle.study_session.specs.Contexts.{context_of, situation}
use Rattle.study_session.specs.Explained.{explained}
use Rattle.study_session.specs.Seen.{IsSeenText}
use Rattle.study_session.proofs.seen.seen_text.Goals as goal

pub returns-clause-answer : goal.returns-clause-answer
unfolding IsSeenText
returns-clause-answer g c =
    let x = context_of c.args.context.now in
    let plain = c.in_ok-answer.answer in
    IfOk-weaker c.question_explained.result _ _
    (λ it is. (
      plain,
      c.in_ok-answer.ensures.answer,
      is ∙ ap (λ (all : Sessions). explained (question_hint (situation x (all x.branch)) x.words c.args.asked.now) plain) c.in_ok-answer.ensures.kept,
    ))
    c.question_explained.ensures.answer
