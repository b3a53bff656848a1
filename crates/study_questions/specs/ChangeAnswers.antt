-- The answers about what differs from the baseline.
use Rattle.std.specs.Prelude.{ℕ, List, [], ◌∷◌, ◌++◌, length, Option, None, Some, codes}
use Rattle.lsa_codec.specs.declared.address.RouterId.{RouterId}
use Rattle.lsdb.specs.Lists.{Lists}
use Rattle.study_words.specs.declared.see_word.SeeWord.TheVariants as words
use Rattle.study_text.specs.Shown.{Called}
use Rattle.study_text.specs.Lists.{lines_of as lines_as}
use Rattle.change_lines.specs.ChangeTexts.{ChangeLineValue, ChangesValue, change_text, counts_text}
use Rattle.change_lines.specs.PairTexts.{pair_line}
use Rattle.comparison.specs.Named.{all_changes, changes_for}
use Rattle.change_report.specs.Lines.{gone_lines, lines_of_changes, lost_lines}
use Rattle.lsa_differences.specs.Differences.{differences}
use Rattle.lsa_differences.specs.DifferenceTexts.{difference_text}
use Rattle.study_answers.specs.Answers.{AnswerValue, accepted_answer}
use Rattle.study_answers.specs.Known.{is_known, unless_unknown}
use Rattle.study_answers.specs.Missing.{beside}
use Rattle.study_questions.specs.Texts.{head_of, number_after, router_after}
use Rattle.study_questions.specs.Listings.{listed}

module _ (called : Called) (branch : ℕ) where
  -- what differs, after the router that the line names
  abbrev pub changes_reply : Option RouterId → ChangesValue → List ChangeLineValue → List ℕ
  changes_reply router changes lines =
      head_of branch words.Changes ++ router_after called router ++ number_after (length changes.names) ++ counts_text changes ++ codes "\n"
      ++ lines_as (change_text called) lines

  unfoldable pub changes_of : Lists → Lists → Option RouterId → ChangesValue → AnswerValue
  changes_of baseline db router changes = accepted_answer (changes_reply router changes (lines_of_changes (beside baseline db) changes.names))

  unfoldable pub changes_answer : Lists → Lists → Option RouterId → AnswerValue
  changes_answer baseline db None = changes_of baseline db None (all_changes (beside baseline db))
  changes_answer baseline db (Some router) =
      unless_unknown branch (is_known baseline db router) (changes_of baseline db (Some router) (changes_for (beside baseline db) (router ∷ [])))

  -- the areas and LSAs that differ
  unfoldable pub differences_answer : Lists → Lists → AnswerValue
  differences_answer baseline db = listed branch words.Differences (difference_text called) (differences baseline db)

  -- routers with prefixes that they have no entry for any more
  unfoldable pub lost_answer : Lists → Lists → AnswerValue
  lost_answer baseline db = listed branch words.Lost (pair_line called) (lost_lines (beside baseline db))

  unfoldable pub gone_answer : Lists → Lists → AnswerValue
  gone_answer baseline db = listed branch words.Gone (pair_line called) (gone_lines (beside baseline db))
