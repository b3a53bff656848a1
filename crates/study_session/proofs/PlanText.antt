-- A command of `ospf-plan` is answered with the text of its reply.
use Rattle.std.proofs.Common.{◌≡◌, ℕ, Bool, false, List, None, refl, ap, ◌∙◌}
use Rattle.branches.specs.Replies.{Said, done, refused, table, tables, compared, counted, reply_text, reply_to}
use Rattle.study_answers.specs.Answers.{accepted_answer, refused_answer}
use Rattle.study_script.specs.declared.named_command.NamedCommand.TheVariants as named_command
use Rattle.edit_history.specs.Session.{Session}
use Rattle.edit_script.specs.declared.command.Command.{Command}
use Rattle.edit_script.specs.declared.command.Command.TheVariants as command
use Rattle.edit_script.specs.declared.edit.Edit.TheVariants as edit
use Rattle.edit_script.specs.Spelling.{IsInRange}
use Rattle.study_answers.specs.Answers.{AnswerValue}
use Rattle.study_session.specs.Contexts.{ContextValue}
use Rattle.study_session.specs.Explained.{command_explained, refused_with, with_hint}
use Rattle.study_session.specs.Formats.{in_format}
use Rattle.study_session.specs.declared.format.Format.{Format}
use Rattle.study_session.specs.declared.format.Format.TheVariants as format
use Rattle.study_session.specs.NamedCommands.{named_answer, way_answer}
use Rattle.study_session.specs.declared.way.Way.{Way}
use Rattle.study_session.specs.declared.way.Way.TheVariants.{Plain}
use Rattle.study_session.specs.Ways.{plan_way, way_of}
use Rattle.study_session.specs.PlanAnswers.{answer_by, command_answer, plan_answer}

-- a command that a line of a script means is no event, so that it does not say what it changed
plain_way : (c : Command) → IsInRange c → plan_way false c ≡ Plain c
unfolding plan_way
plain_way (command.Edit (edit.Event event)) never = absurd never
plain_way (command.Edit (edit.Cost area router link metric)) range = refl
plain_way (command.Edit (edit.DropLink area router link)) range = refl
plain_way (command.Edit (edit.FailLink area router neighbor)) range = refl
plain_way (command.Edit (edit.FailNet area network)) range = refl
plain_way (command.Edit (edit.FailRouter router)) range = refl
plain_way (command.Edit (edit.AddStub area router prefix metric)) range = refl
plain_way (command.Edit (edit.Summary area router prefix metric)) range = refl
plain_way (command.Edit (edit.AddSummary area router prefix metric)) range = refl
plain_way (command.Edit (edit.AddExternal router prefix kind metric forward tag)) range = refl
plain_way (command.Edit (edit.DropExternal router prefix)) range = refl
plain_way (command.Edit edit.Refresh) range = refl
plain_way (command.Undo count) range = refl
plain_way (command.Redo count) range = refl
plain_way (command.Table router) range = refl
plain_way command.Tables range = refl
plain_way (command.Compare router) range = refl
plain_way command.Info range = refl

-- where lines are answered with texts
module _ (x : ContextValue) (are_texts : x.format ≡ format.Text) where
  text_of : (text document : List ℕ) → in_format x.format text document ≡ text
  text_of text document = ap (λ (f : Format). in_format f text document) are_texts

  plan_text : (said : Said) → (plan_answer x said).text ≡ reply_text x.branch said
  unfolding plan_answer accepted_answer refused_answer
  plan_text done = text_of _ _
  plan_text (refused why) = refl
  plan_text (table t) = text_of _ _
  plan_text (tables ts) = text_of _ _
  plan_text (compared router before now) = text_of _ _
  plan_text (counted info) = text_of _ _

  -- a hint leaves the text as it is
  explained_text : (s : Session) (c : Command) (said : Said) (answer : AnswerValue) → (command_explained x s c said answer).text ≡ answer.text
  unfolding command_explained refused_with with_hint
  explained_text s c done answer = refl
  explained_text s c (refused why) answer = text_of _ _
  explained_text s c (table t) answer = refl
  explained_text s c (tables ts) answer = refl
  explained_text s c (compared router before now) answer = refl
  explained_text s c (counted info) answer = refl

  command_text : (s : Session) (c : Command) → (command_answer x s c None).text ≡ reply_text x.branch (reply_to s c)
  unfolding command_answer answer_by
  command_text s c = explained_text s c (reply_to s c) (plan_answer x (reply_to s c)) ∙ plan_text (reply_to s c)

  plain_text : (s : Session) (c : Command) → (way_answer x s (Plain c)).text ≡ reply_text x.branch (reply_to s c)
  unfolding way_answer
  plain_text s c = command_text s c

  -- and edits do not say what they changed
  pub quiet_text : (s : Session) (c : Command) → IsInRange c → x.is_verbose ≡ false
      → (named_answer x s (named_command.Command c)).text ≡ reply_text x.branch (reply_to s c)
  unfolding named_answer way_of
  quiet_text s c range is_quiet =
      ap (λ (says : Bool). (way_answer x s (plan_way says c)).text) is_quiet
      ∙ ap (λ (w : Way). (way_answer x s w).text) (plain_way c range) ∙ plain_text s c
