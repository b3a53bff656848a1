-- The answers about loops.
use Rattle.std.specs.Prelude.{◌≡◌, ℕ, ◌+◌, List, ◌++◌, length, Option, None, Some, codes}
use Rattle.lsdb.specs.Lists.{Lists}
use Rattle.study_words.specs.declared.see_word.SeeWord.TheVariants as words
use Rattle.study_text.specs.Shown.{Called}
use Rattle.loop_report.specs.Blackholes.{AreNewBlackholes, BlackholeValue}
use Rattle.loop_report.specs.Loops.{AreJointLoops, AreLoopsNow, LoopValue}
use Rattle.loop_report.specs.Parts.{AreAtAtoms}
use Rattle.loop_report.specs.Texts.{blackhole_lines, loop_line, loop_lines}
use Rattle.study_answers.specs.Answers.{AnswerValue, accepted_answer, refused_answer}
use Rattle.study_questions.specs.Texts.{head_of, number_after}
use Rattle.study_questions.specs.Listings.{counted}
use Rattle.study_answers.specs.Known.{too_few_done}

-- what the words say in a branch
module _ (called : Called) (branch : ℕ) where
  -- loops, and new blackholes
  abbrev pub loops_reply : List LoopValue → List BlackholeValue → List ℕ
  loops_reply loops blackholes =
      head_of branch words.Loops ++ number_after (length loops + length blackholes) ++ codes " loops" ++ number_after (length loops)
      ++ codes " blackholes" ++ number_after (length blackholes) ++ codes "\n" ++ loop_lines called loops ++ blackhole_lines called blackholes

  unfoldable pub IsLoopsAnswer : Lists → Lists → AnswerValue → Type 0
  IsLoopsAnswer db baseline answer =
      (loops : List LoopValue) × (blackholes : List BlackholeValue)
      × AreAtAtoms AreLoopsNow baseline db loops × AreAtAtoms AreNewBlackholes baseline db blackholes
      × (answer ≡ accepted_answer (loops_reply loops blackholes))

  -- what may loop while routers change over the last edits
  abbrev pub microloops_reply : ℕ → List LoopValue → List ℕ
  microloops_reply count loops =
      head_of branch words.Microloops ++ number_after count ++ counted (loop_line called) loops

  -- by the database before them; where fewer edits are done, there is none
  unfoldable pub IsMicroloopsAnswer : Lists → ℕ → Option Lists → AnswerValue → Type 0
  IsMicroloopsAnswer db count None answer = answer ≡ refused_answer branch too_few_done
  IsMicroloopsAnswer db count (Some before) answer =
      (loops : List LoopValue) × AreAtAtoms AreJointLoops before db loops × (answer ≡ accepted_answer (microloops_reply count loops))
