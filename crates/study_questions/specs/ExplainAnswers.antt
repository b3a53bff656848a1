-- The answer about why a route is what it is.
use Rattle.std.specs.Prelude.{◌≡◌, ℕ, List, ◌++◌, Some, codes}
use Rattle.lsa_codec.specs.Prefix.{Net}
use Rattle.lsa_codec.specs.Spelling.{prefix_text}
use Rattle.lsa_codec.specs.declared.address.RouterId.{RouterId}
use Rattle.lsdb.specs.Lists.{Lists}
use Rattle.study_words.specs.declared.see_word.SeeWord.TheVariants as words
use Rattle.study_text.specs.Shown.{Called}
use Rattle.route_report.specs.Lines.{route_of}
use Rattle.explanation.specs.Texts.{ExplanationValue, explanation_text, lines_in}
use Rattle.explanation.specs.Whole.{IsExplanation}
use Rattle.study_answers.specs.Answers.{AnswerValue, accepted_answer}
use Rattle.study_answers.specs.Known.{IfKnown, is_attached}
use Rattle.study_questions.specs.Texts.{head_of, number_after, router_after}

-- why a router's route to a prefix is what it is
abbrev pub IsExplained : Lists → RouterId → Net → ExplanationValue → Type 0
IsExplained db router net e = IsExplanation (record { db = db; router = router }) net (route_of db router net) e

-- what the word says in a branch
module _ (called : Called) (branch : ℕ) where
  -- the explanation, after the router and the prefix that the line names
  abbrev pub explain_reply : RouterId → Net → ExplanationValue → List ℕ
  explain_reply router net e =
      head_of branch words.Explain ++ router_after called (Some router) ++ codes " " ++ prefix_text net ++ number_after (lines_in e)
      ++ codes "\n" ++ explanation_text called e

  unfoldable pub IsExplainAnswer : Lists → RouterId → Net → AnswerValue → Type 0
  IsExplainAnswer db router net answer = IfKnown branch (is_attached db router) answer
      ((e : ExplanationValue) × IsExplained db router net e × (answer ≡ accepted_answer (explain_reply router net e)))
