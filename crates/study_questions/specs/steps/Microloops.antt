-- What may loop while routers change over, as the code has it: the loops, if the edits that a line names are done.
use Rattle.std.specs.Prelude.{ℕ, List, Option, None, Some}
use Rattle.study_text.specs.Shown.{Called}
use Rattle.loop_report.specs.Loops.{LoopValue}
use Rattle.study_answers.specs.Answers.{AnswerValue, accepted_answer, refused_answer}
use Rattle.study_answers.specs.Known.{too_few_done}
use Rattle.study_questions.specs.LoopAnswers.{microloops_reply}

abbrev pub microloops_by : Called → ℕ → ℕ → Option (List LoopValue) → AnswerValue
microloops_by called branch count None = refused_answer branch too_few_done
microloops_by called branch count (Some loops) = accepted_answer (microloops_reply called branch count loops)
