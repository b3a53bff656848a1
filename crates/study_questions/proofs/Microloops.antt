-- What may loop while routers change over: from the loops to the answer.
use Rattle.std.proofs.Common.{◌≡◌, ℕ, List, Option, None, Some, ap, ◌∙◌}
use Rattle.lsdb.specs.Lists.{Lists}
use Rattle.study_text.specs.Shown.{Called}
use Rattle.loop_report.specs.Loops.{LoopValue}
use Rattle.study_answers.specs.Answers.{AnswerValue}
use Rattle.study_answers.specs.Microloops.{AreMicroloops}
use Rattle.study_questions.specs.LoopAnswers.{IsMicroloopsAnswer}
use Rattle.study_questions.specs.steps.Microloops.{microloops_by}

module _ (called : Called) (db : Lists) where
  pub answered : (branch count : ℕ) (before : Option Lists) (loops : Option (List LoopValue)) (answer : AnswerValue)
      → AreMicroloops db before loops → answer ≡ microloops_by called branch count loops → IsMicroloopsAnswer called branch db count before answer
  unfolding IsMicroloopsAnswer
  answered branch count None loops answer are is = is ∙ ap (microloops_by called branch count) are
  answered branch count (Some before) None answer are is = absurd are
  answered branch count (Some before) (Some loops) answer are is = (loops, are, is)
