use Rattle.std.proofs.Common.{◌≡◌, ℕ, IfOk, subst}
use Rattle.std.specs.Prelude.{option_map}
use Rattle.std.proofs.lemmas.Result.{IfOk-weaker}
use Rattle.network_names.specs.Names.{called}
use Rattle.edit_history.specs.Session.{state}
use Rattle.branches.specs.Branches.{before_last, sessions_of}
use Rattle.study_answers.specs.Answers.{AnswerValue}
use Rattle.study_questions.specs.LoopAnswers.{IsMicroloopsAnswer}
use Rattle.study_questions.specs.steps.Microloops.{microloops_by}
use Rattle.study_questions.proofs.Microloops.{answered}
use Rattle.study_questions.proofs.loops.microloops.Goals as goal

pub returns-clause-answer : goal.returns-clause-answer
returns-clause-answer g c =
    let called = called c.args.names.now in
    let branch = c.args.branch in
    let s = sessions_of c.args.branches.now branch in
    let count = c.unwrap_or-count.result in
    let loops = option_map (λ found. found.items) c.in_ok-loops.loops in
    subst (λ (n : ℕ). IfOk c.microloops_answer.result (λ answer. IsMicroloopsAnswer called branch (state s) n (before_last n s) answer))
    c.unwrap_or-count.ensures
    (IfOk-weaker c.microloops_answer.result (λ (answer : AnswerValue). answer ≡ microloops_by called branch count loops)
    (λ (answer : AnswerValue). IsMicroloopsAnswer called branch (state s) count (before_last count s) answer)
    (λ answer is. answered called (state s) branch count (before_last count s) loops answer c.in_ok-loops.ensures.loops is)
    c.microloops_answer.ensures)
