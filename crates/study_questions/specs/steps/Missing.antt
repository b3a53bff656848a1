-- The answer about prefixes that routers have no entry for any more, as the code has it.
use Rattle.std.specs.Prelude.{ℕ}
use Rattle.lsdb.specs.Lists.{Lists}
use Rattle.study_text.specs.Shown.{Called}
use Rattle.study_answers.specs.declared.missing.Missing.{Missing}
use Rattle.study_answers.specs.declared.missing.Missing.TheVariants as missing
use Rattle.study_answers.specs.Answers.{AnswerValue}
use Rattle.study_questions.specs.ChangeAnswers.{gone_answer, lost_answer}

abbrev pub missing_answer : Called → ℕ → Missing → Lists → Lists → AnswerValue
missing_answer called branch missing.Lost baseline db = lost_answer called branch baseline db
missing_answer called branch missing.Gone baseline db = gone_answer called branch baseline db
