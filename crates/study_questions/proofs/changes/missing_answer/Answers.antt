use Rattle.std.proofs.Common.{◌≡◌, ℕ, List, IfOk, ap, subst, ◌∙◌}
use Rattle.network_names.specs.Names.{called}
use Rattle.lsdb.specs.Lists.{Lists}
use Rattle.lsdb.specs.Slots.{lists_of}
use Rattle.study_words.specs.declared.see_word.SeeWord.{SeeWord}
use Rattle.study_words.specs.declared.see_word.SeeWord.TheVariants as words
use Rattle.study_text.specs.Shown.{Called}
use Rattle.change_lines.specs.PairTexts.{PairLineValue, pair_line}
use Rattle.comparison.specs.Compared.{Compared}
use Rattle.study_answers.specs.declared.missing.Missing.{Missing}
use Rattle.study_answers.specs.declared.missing.Missing.TheVariants as missing
use Rattle.study_answers.specs.Answers.{AnswerValue}
use Rattle.study_answers.specs.Missing.{beside}
use Rattle.study_questions.specs.ChangeAnswers.{gone_answer, lost_answer}
use Rattle.study_questions.specs.Listings.{listed}
use Rattle.study_questions.specs.steps.Missing.{missing_answer}
use Rattle.study_answers.specs.Missing.{missing_lines, missing_word}
use Rattle.study_questions.proofs.changes.missing_answer.Goals as goal

module _ (called : Called) (branch : ℕ) (baseline db : Lists) where
  -- the word and the lines of the question
  listed_is : (what : Missing) (word : SeeWord) (lines : List PairLineValue) → word ≡ missing_word what → lines ≡ missing_lines what (beside baseline db)
      → listed branch word (pair_line called) lines ≡ missing_answer called branch what baseline db
  unfolding lost_answer gone_answer missing_lines
  listed_is missing.Lost word lines of are =
      ap (λ (w : SeeWord). listed branch w (pair_line called) lines) of ∙ ap (listed branch words.Lost (pair_line called)) are
  listed_is missing.Gone word lines of are =
      ap (λ (w : SeeWord). listed branch w (pair_line called) lines) of ∙ ap (listed branch words.Gone (pair_line called)) are

pub returns : goal.returns
returns g c =
    subst (λ (answer : AnswerValue). IfOk c.listed.result (λ given. given ≡ answer))
    (listed_is (called c.args.names.now) c.args.branch (lists_of c.args.baseline.now) (lists_of c.args.database.now) c.args.missing c.word.result
    c.deref.result.now c.word.ensures
    (c.deref.ensures.value ∙ c.in_ok-lines.ensures ∙ ap (λ (both : Compared). missing_lines c.args.missing both) c.in_ok-both.ensures))
    c.listed.ensures
