-- An edit of a link that is named is answered, and leaves the sessions, as its number and what it changes say.
use Rattle.std.proofs.Common.{◌≡◌, ℕ, List, Option, None, Some, Result, Ok, Err, OnOk, ap, subst, ◌∙◌}
use Rattle.lsa_codec.specs.declared.address.AreaId.{AreaId}
use Rattle.lsa_codec.specs.declared.address.RouterId.{RouterId}
use Rattle.edit_script.specs.declared.command.Command.{Command}
use Rattle.edit_history.specs.Session.{Session, state}
use Rattle.study_arguments.specs.declared.link.LinkName.{LinkName}
use Rattle.link_report.specs.Links.{link_at}
use Rattle.branches.specs.Branches.{Sessions, stepped}
use Rattle.study_session.specs.declared.link_edit.LinkEdit.{LinkEdit}
use Rattle.study_answers.specs.Answers.{refused_answer}
use Rattle.refusal_hints.specs.CommandHints.{many_links_hint}
use Rattle.study_session.specs.Contexts.{ContextValue, situation}
use Rattle.study_session.specs.Explained.{refused_with}
use Rattle.study_session.specs.PlanAnswers.{command_answer}
use Rattle.study_session.specs.NamedCommands.{link_answer, link_change, link_edit, link_stepped, many_links, named_number}

-- sessions before an edit and after its look-up, and the session of the branch's planner
module _ (x : ContextValue) (area : AreaId) (router : RouterId) (name : LinkName) (edit : LinkEdit)
    (all now : Sessions) (kept : now ≡ all) (planner : Session) (of_branch : planner ≡ now x.branch) where
  abbrev branch : ℕ
  branch = x.branch

  session_is : planner ≡ all branch
  session_is = of_branch ∙ ap (λ (sessions : Sessions). sessions branch) kept

  -- what the planner's session says of the number
  number_is : (given : Option ℕ) → given ≡ named_number planner area router name → given ≡ named_number (all branch) area router name
  number_is given is = subst (λ (s : Session). given ≡ named_number s area router name) session_is is

  -- one link is found
  module _ (number : ℕ) (command : Command) (is_edit : command ≡ link_edit edit area router number)
      (is_number : Some number ≡ named_number planner area router name) where
    pub found_answer : (change : List ℕ) → change ≡ link_change x edit (link_at (state planner) area router number)
        → command_answer x (now branch) command (Some change)
        ≡ link_answer x (all branch) area router name edit (named_number (all branch) area router name)
    unfolding link_answer
    found_answer change says =
        ap (λ (t : List ℕ). command_answer x (now branch) command (Some t))
        (subst (λ (s : Session). change ≡ link_change x edit (link_at (state s) area router number)) session_is says)
        ∙ ap (λ (s : Session). command_answer x s command (Some (link_change x edit (link_at (state (all branch)) area router number))))
        (ap (λ (sessions : Sessions). sessions branch) kept)
        ∙ ap (λ (c : Command). command_answer x (all branch) c (Some (link_change x edit (link_at (state (all branch)) area router number)))) is_edit
        ∙ ap (link_answer x (all branch) area router name edit) (number_is (Some number) is_number)

    pub found_stepped : stepped branch command now ≡ link_stepped branch area router edit (named_number (all branch) area router name) all
    unfolding link_stepped
    found_stepped =
        ap (stepped branch command) kept ∙ ap (λ (c : Command). stepped branch c all) is_edit
        ∙ ap (λ (n : Option ℕ). link_stepped branch area router edit n all) (number_is (Some number) is_number)

  -- several are
  module _ (are_several : None ≡ named_number planner area router name) where
    pub several_answer : refused_with x many_links (many_links_hint (situation x planner) x.words area router name) (refused_answer branch many_links)
        ≡ link_answer x (all branch) area router name edit (named_number (all branch) area router name)
    unfolding link_answer
    several_answer =
        ap (λ (s : Session). refused_with x many_links (many_links_hint (situation x s) x.words area router name) (refused_answer branch many_links)) session_is
        ∙ ap (link_answer x (all branch) area router name edit) (number_is None are_several)

    pub several_stepped : now ≡ link_stepped branch area router edit (named_number (all branch) area router name) all
    unfolding link_stepped
    several_stepped = kept ∙ ap (λ (n : Option ℕ). link_stepped branch area router edit n all) (number_is None are_several)

-- what holds anyway holds of a success
pub if_ok : {T E P : Type 0} (r : Result T E) → P → OnOk r P
if_ok (Ok v) holds = holds
if_ok (Err e) holds = tt
