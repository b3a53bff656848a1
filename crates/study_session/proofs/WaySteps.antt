-- However a command is carried out, it leaves the same sessions; its answer is by how it is carried out.
use Rattle.std.proofs.Common.{◌≡◌, ℕ, Bool, true, false, Result, IfOk, OnOk, refl, ap, subst, sym, ◌∙◌}
use Rattle.edit_script.specs.declared.command.Command.{Command}
use Rattle.edit_script.specs.declared.command.Command.TheVariants as command
use Rattle.edit_script.specs.declared.edit.Edit.{Edit}
use Rattle.edit_script.specs.declared.edit.Edit.TheVariants as edit
use Rattle.branches.specs.Branches.{Sessions, stepped}
use Rattle.study_script.specs.declared.named_command.NamedCommand.{NamedCommand}
use Rattle.study_script.specs.declared.named_command.NamedCommand.TheVariants as named_command
use Rattle.study_session.specs.declared.way.Way.{Way}
use Rattle.study_session.specs.declared.way.Way.TheVariants.{Plain, Link, Differing}
use Rattle.study_answers.specs.Answers.{AnswerValue}
use Rattle.study_session.specs.Contexts.{ContextValue}
use Rattle.study_session.specs.NamedCommands.{link_stepped, named_answer, named_number, named_stepped, way_answer}
use Rattle.study_session.specs.Ways.{edit_way, plan_way, way_of}

module _ (branch : ℕ) (all : Sessions) where
  -- the sessions after a command, by how it is carried out
  unfoldable pub way_stepped : Way → Sessions
  way_stepped (Plain c) = stepped branch c all
  way_stepped (Link area router name edit) = link_stepped branch area router edit (named_number (all branch) area router name) all
  way_stepped (Differing edit) = stepped branch (command.Edit edit) all

  edit_steps : (e : Edit) → way_stepped (edit_way e) ≡ stepped branch (command.Edit e) all
  unfolding edit_way way_stepped link_stepped named_number
  edit_steps (edit.Cost area router link metric) = refl
  edit_steps (edit.DropLink area router link) = refl
  edit_steps (edit.FailLink area router neighbor) = refl
  edit_steps (edit.FailNet area network) = refl
  edit_steps (edit.FailRouter router) = refl
  edit_steps (edit.AddStub area router prefix metric) = refl
  edit_steps (edit.Summary area router prefix metric) = refl
  edit_steps (edit.AddSummary area router prefix metric) = refl
  edit_steps (edit.AddExternal router prefix kind metric forward tag) = refl
  edit_steps (edit.DropExternal router prefix) = refl
  edit_steps edit.Refresh = refl
  edit_steps (edit.Event event) = refl

  plan_steps : (says : Bool) (c : Command) → way_stepped (plan_way says c) ≡ stepped branch c all
  unfolding plan_way way_stepped
  plan_steps says (command.Edit (edit.Event event)) = refl
  plan_steps true (command.Edit e) = edit_steps e
  plan_steps true (command.Undo count) = refl
  plan_steps true (command.Redo count) = refl
  plan_steps true (command.Table router) = refl
  plan_steps true command.Tables = refl
  plan_steps true (command.Compare router) = refl
  plan_steps true command.Info = refl
  plan_steps false c = refl

  pub way_steps : (says : Bool) (c : NamedCommand) → way_stepped (way_of says c) ≡ named_stepped branch c all
  unfolding way_of way_stepped named_stepped
  way_steps says (named_command.Cost area router name metric) = refl
  way_steps says (named_command.DropLink area router name) = refl
  way_steps says (named_command.Command c) = plan_steps says c

-- a command with names is answered, and steps, as it is carried out
module _ (x : ContextValue) (all : Sessions) (c : NamedCommand) (by : Way) (is : by ≡ way_of x.is_verbose c) {given : Way} (taken : by ≡ given) where
  pub named_as : {E : Type 0} (result : Result AnswerValue E) → IfOk result (λ answer. answer ≡ way_answer x (all x.branch) given)
      → IfOk result (λ answer. answer ≡ named_answer x (all x.branch) c)
  unfolding named_answer
  named_as result = subst (λ (w : Way). IfOk result (λ answer. answer ≡ way_answer x (all x.branch) w)) (sym taken ∙ is)

  pub steps_as : {T E : Type 0} (result : Result T E) (after : Sessions) → OnOk result (after ≡ way_stepped x.branch all given)
      → OnOk result (after ≡ named_stepped x.branch c all)
  steps_as result after =
      subst (λ (sessions : Sessions). OnOk result (after ≡ sessions))
      (ap (way_stepped x.branch all) (sym taken ∙ is) ∙ way_steps x.branch all x.is_verbose c)
