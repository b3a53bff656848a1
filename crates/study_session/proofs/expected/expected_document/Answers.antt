use Rattle.std.proofs.Common.{◌∙◌, ap}
use Rattle.std.proofs.lemmas.Result.{IfOk-weaker}
use Rattle.branches.specs.Branches.{Sessions}
use Rattle.study_script.specs.Expected.{expected}
use Rattle.document_answers.specs.Expectations.{judged}
use Rattle.study_session.specs.Contexts.{context_of}
use Rattle.study_session.specs.Seen.{IsExpectedDocument, judged_answer}
use Rattle.study_session.proofs.expected.expected_document.Goals as goal

pub returns-clause-answer : goal.returns-clause-answer
unfolding IsExpectedDocument
returns-clause-answer g c =
    let x = context_of c.args.context.now in
    let given = judged c.in_ok-given.given in
    IfOk-weaker c.judged_answer.result _ _
    (λ it is. (
      given,
      (
        c.in_ok-given.ensures.judged,
        is ∙ ap (λ (all : Sessions). judged_answer x (all x.branch) (expected c.args.what.now.condition) given) c.in_ok-given.ensures.kept,
      ),
    ))
    c.judged_answer.ensures.answer
