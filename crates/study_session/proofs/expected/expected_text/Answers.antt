use Rattle.std.proofs.Common.{◌∙◌, ap}
use Rattle.std.proofs.lemmas.Result.{IfOk-weaker}
use Rattle.branches.specs.Branches.{Sessions}
use Rattle.study_script.specs.Expected.{expected}
use Rattle.refusal_hints.specs.ExpectationHints.{expectation_hint}
use Rattle.study_session.specs.Contexts.{context_of, situation}
use Rattle.study_session.specs.Explained.{explained}
use Rattle.study_session.specs.Seen.{IsExpectedText}
use Rattle.study_session.proofs.expected.expected_text.Goals as goal

pub returns-clause-answer : goal.returns-clause-answer
unfolding IsExpectedText
returns-clause-answer g c =
    let x = context_of c.args.context.now in
    let plain = c.in_ok-answer.answer in
    let what = expected c.args.what.now.condition in
    IfOk-weaker c.expectation_explained.result _ _
    (λ it is. (
      plain,
      c.in_ok-answer.ensures.answer,
      is ∙ ap (λ (all : Sessions). explained (expectation_hint (situation x (all x.branch)) x.lookup x.words what) plain) c.in_ok-answer.ensures.kept,
    ))
    c.expectation_explained.ensures.answer
