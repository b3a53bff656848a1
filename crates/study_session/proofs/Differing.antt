-- An edit says how the database differs from that before it.
use Rattle.std.proofs.Common.{◌≡◌, true, List, ℕ, Some, Result, IfOk, refl, ap, subst, ◌∙◌}
use Rattle.lsdb.specs.Lists.{Lists}
use Rattle.edit_script.specs.declared.command.Command.{Command}
use Rattle.edit_history.specs.Session.{Session, state}
use Rattle.branches.specs.Branches.{Sessions, stepped}
use Rattle.branches.specs.Replies.{Said, after, is_refusal, reply_to}
use Rattle.lsa_differences.specs.Differences.{differences}
use Rattle.study_answers.specs.Answers.{AnswerValue}
use Rattle.study_session.specs.Contexts.{ContextValue}
use Rattle.study_session.specs.Explained.{command_explained}
use Rattle.study_session.specs.PlanAnswers.{answer_by, command_answer, differing_answer, differing_text}
use Rattle.study_session.proofs.Explaining.{explained_before, here}

-- sessions before an edit, after the branch was prepared, after the edit, and after the branch was prepared again
module _ (law : (s : Session) (c : Command) → is_refusal (reply_to s c) ≡ true → after s c ≡ s)
    (x : ContextValue) (c : Command) (all begun done now : Sessions)
    (prepared : begun ≡ all) (steps : done ≡ stepped x.branch c begun) (kept : now ≡ done) where
  pub goes_on : now ≡ stepped x.branch c all
  goes_on = kept ∙ steps ∙ ap (stepped x.branch c) prepared

  -- what is said of the edit
  change_is : (before present : Lists) (first last : Session) (text : List ℕ) → text ≡ differing_text x (differences before present)
      → before ≡ state first → first ≡ begun x.branch → present ≡ state last → last ≡ now x.branch
      → text ≡ differing_text x (differences (state (all x.branch)) (state (after (all x.branch) c)))
  change_is before present first last text is at_first of_first at_last of_last =
      is
      ∙ ap (λ (db : Lists). differing_text x (differences db present))
      (at_first ∙ ap state (of_first ∙ ap (λ (sessions : Sessions). sessions x.branch) prepared))
      ∙ ap (λ (db : Lists). differing_text x (differences (state (all x.branch)) db))
      (at_last ∙ ap state (of_last ∙ here law x all now c goes_on))

  pub differing : {E : Type 0} (result : Result AnswerValue E) (before present : Lists) (first last : Session) (said : Said) (text : List ℕ)
      → text ≡ differing_text x (differences before present)
      → before ≡ state first → first ≡ begun x.branch → present ≡ state last → last ≡ now x.branch → said ≡ reply_to (begun x.branch) c
      → IfOk result (λ it. it ≡ command_explained x (now x.branch) c said (answer_by x (Some text) said))
      → IfOk result (λ it. it ≡ differing_answer x (all x.branch) c)
  unfolding differing_answer command_answer
  differing result before present first last said text is at_first of_first at_last of_last replies explained =
      subst (λ (t : List ℕ). IfOk result (λ it. it ≡ command_answer x (all x.branch) c (Some t)))
      (change_is before present first last text is at_first of_first at_last of_last)
      (explained_before law x all now c goes_on result (answer_by x (Some text)) said (answer_by x (Some text) said)
      (replies ∙ ap (λ (sessions : Sessions). reply_to (sessions x.branch) c) prepared) refl explained)
