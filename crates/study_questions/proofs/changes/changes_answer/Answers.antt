use Rattle.std.proofs.Common.{◌≡◌, ℕ, [], ◌∷◌, Option, None, Some, true, IfOk, sym, ap, subst, ◌∙◌}
use Rattle.network_names.specs.Names.{called}
use Rattle.lsa_codec.specs.declared.address.RouterId.{RouterId}
use Rattle.lsdb.specs.Lists.{Lists}
use Rattle.lsdb.specs.Slots.{lists_of}
use Rattle.study_text.specs.Shown.{Called}
use Rattle.change_lines.specs.ChangeTexts.{ChangesValue}
use Rattle.comparison.specs.Compared.{Compared}
use Rattle.comparison.specs.Named.{all_changes, changes_for}
use Rattle.study_answers.specs.Answers.{AnswerValue}
use Rattle.study_answers.specs.Missing.{beside}
use Rattle.study_questions.specs.ChangeAnswers.{changes_answer, changes_of}
use Rattle.study_answers.specs.Known.{is_known, unless_unknown}
use Rattle.study_questions.proofs.changes.changes_answer.Goals as goal

module _ (called : Called) (branch : ℕ) (baseline db : Lists) (both : Compared) (is : both ≡ beside baseline db) where
  -- what differs for these
  changed : (router : Option RouterId) (changes : ChangesValue) (changes_in : Compared → ChangesValue) → changes ≡ changes_in both
      → changes_of called branch both.baseline both.present router changes ≡ changes_of called branch baseline db router (changes_in (beside baseline db))
  changed router changes changes_in are =
      ap (λ (c : Compared). changes_of called branch c.baseline c.present router changes) is
      ∙ ap (changes_of called branch baseline db router) (are ∙ ap changes_in is)

  for_all : (router : Option RouterId) (changes : ChangesValue) → router ≡ None → changes ≡ all_changes both
      → changes_of called branch both.baseline both.present None changes ≡ changes_answer called branch baseline db router
  unfolding changes_answer
  for_all router changes none are = changed None changes all_changes are ∙ ap (changes_answer called branch baseline db) (sym none)

module _ (called : Called) (branch : ℕ) (baseline db : Lists) where
  for_one : (router : Option RouterId) (one : RouterId) → router ≡ Some one → is_known baseline db one ≡ true
      → changes_of called branch baseline db (Some one) (changes_for (beside baseline db) (one ∷ [])) ≡ changes_answer called branch baseline db router
  unfolding changes_answer
  for_one router one some known =
      ap (λ b. unless_unknown branch b (changes_of called branch baseline db (Some one) (changes_for (beside baseline db) (one ∷ [])))) (sym known)
      ∙ ap (changes_answer called branch baseline db) (sym some)

pub returns-in-Some : goal.returns-in-Some
returns-in-Some g c =
    subst (λ (answer : AnswerValue). IfOk c.changes_of_router.result (λ given. given ≡ answer))
    (for_one (called c.args.names.now) c.args.branch (lists_of c.args.baseline.now) (lists_of c.args.database.now) c.args.router c.in-Some.one c.in-Some.is
    (sym c.in_ok-is_known.ensures ∙ c.if-not-branch.false))
    c.changes_of_router.ensures

pub returns : goal.returns
returns g c =
    subst (λ (answer : AnswerValue). IfOk c.changes_of.result (λ given. given ≡ answer))
    (for_all (called c.args.names.now) c.args.branch (lists_of c.args.baseline.now) (lists_of c.args.database.now) c.in_ok-both.both c.in_ok-both.ensures
    c.args.router c.in_ok-changes.changes c.in_default.is c.in_ok-changes.ensures)
    c.changes_of.ensures
