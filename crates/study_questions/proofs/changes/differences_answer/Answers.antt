use Rattle.std.proofs.Common.{◌≡◌, List, IfOk, subst, ◌∙◌}
use Rattle.network_names.specs.Names.{called}
use Rattle.study_words.specs.declared.see_word.SeeWord.TheVariants as words
use Rattle.lsa_differences.specs.DifferenceTexts.{difference_text}
use Rattle.lsa_differences.specs.declared.line.DifferenceLine.{DifferenceLine}
use Rattle.study_questions.specs.ChangeAnswers.{differences_answer}
use Rattle.study_questions.specs.Listings.{listed}
use Rattle.study_questions.proofs.changes.differences_answer.Goals as goal

pub returns : goal.returns
unfolding differences_answer
returns g c =
    subst (λ (lines : List DifferenceLine). IfOk c.listed.result (λ answer. answer
    ≡ listed c.args.branch words.Differences (difference_text (called c.args.names.now)) lines))
    (c.deref.ensures.value ∙ c.in_ok-lines.ensures) c.listed.ensures
