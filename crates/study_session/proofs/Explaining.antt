-- A command that is refused is explained by what was known before it, since it changes nothing.
use Rattle.std.proofs.Common.{◌≡◌, true, cond, Result, IfOk, refl, sym, ap, ◌∙◌}
use Rattle.std.proofs.lemmas.Bool.{eq-eqb}
use Rattle.std.proofs.lemmas.Result.{IfOk-weaker}
use Rattle.edit_script.specs.declared.command.Command.{Command}
use Rattle.edit_history.specs.Session.{Session}
use Rattle.branches.specs.Branches.{Sessions, stepped}
use Rattle.branches.specs.Replies.{Said, after, compared, counted, done, is_refusal, refusal_texts, refused, reply_to, table, tables}
use Rattle.study_answers.specs.Answers.{AnswerValue}
use Rattle.refusal_hints.specs.CommandHints.{command_hint}
use Rattle.study_session.specs.Contexts.{ContextValue, situation}
use Rattle.study_session.specs.Explained.{command_explained, edit_fault, refused_with}

module _ (law : (s : Session) (c : Command) → is_refusal (reply_to s c) ≡ true → after s c ≡ s)
    (x : ContextValue) (all now : Sessions) (c : Command) (goes_on : now ≡ stepped x.branch c all) where
  -- the session of the branch after the command
  pub here : now x.branch ≡ after (all x.branch) c
  here =
      ap (λ (sessions : Sessions). sessions x.branch) goes_on
      ∙ ap (λ b. cond b (after (all x.branch) c) (all x.branch)) (eq-eqb x.branch x.branch refl)

  as_before : (said : Said) → said ≡ reply_to (all x.branch) c → (plain : AnswerValue)
      → command_explained x (now x.branch) c said plain ≡ command_explained x (all x.branch) c said plain
  unfolding command_explained
  as_before done is plain = refl
  as_before (refused why) is plain =
      ap (λ (s : Session). refused_with x (refusal_texts why) (command_hint (situation x s) x.words c (edit_fault why)) plain)
      (here ∙ law (all x.branch) c (ap is_refusal (sym is)))
  as_before (table t) is plain = refl
  as_before (tables ts) is plain = refl
  as_before (compared router before present) is plain = refl
  as_before (counted info) is plain = refl

  pub explained_before : {E : Type 0} (result : Result AnswerValue E) (answer_by : Said → AnswerValue) (said : Said) (plain : AnswerValue)
      → said ≡ reply_to (all x.branch) c → plain ≡ answer_by said
      → IfOk result (λ it. it ≡ command_explained x (now x.branch) c said plain)
      → IfOk result (λ it. it ≡ command_explained x (all x.branch) c (reply_to (all x.branch) c) (answer_by (reply_to (all x.branch) c)))
  explained_before result answer_by said plain is made explained =
      IfOk-weaker result (λ it. it ≡ command_explained x (now x.branch) c said plain)
      (λ it. it ≡ command_explained x (all x.branch) c (reply_to (all x.branch) c) (answer_by (reply_to (all x.branch) c)))
      (λ it by. by ∙ as_before said is plain ∙ ap (command_explained x (all x.branch) c said) made
      ∙ ap (λ (reply : Said). command_explained x (all x.branch) c reply (answer_by reply)) is)
      explained
