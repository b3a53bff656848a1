use Rattle.std.proofs.Common.{◌∙◌, ap}
use Rattle.std.proofs.lemmas.Result.{IfOk-weaker}
use Rattle.branches.specs.Branches.{Sessions}
use Rattle.document_answers.specs.Documented.{documented}
use Rattle.study_session.specs.Contexts.{context_of}
use Rattle.study_session.specs.Seen.{IsSeenDocument, documented_answer}
use Rattle.study_session.proofs.seen.seen_document.Goals as goal

pub returns-clause-answer : goal.returns-clause-answer
unfolding IsSeenDocument
returns-clause-answer g c =
    let x = context_of c.args.context.now in
    let given = documented c.in_ok-given.given in
    IfOk-weaker c.documented_answer.result _ _
    (λ it is. (
      given,
      (
        c.in_ok-given.ensures.document,
        is ∙ ap (λ (all : Sessions). documented_answer x (all x.branch) c.args.asked.now given) c.in_ok-given.ensures.kept,
      ),
    ))
    c.documented_answer.ensures.answer
