-- What is said of a line that is refused: after the code and the name the word at fault, and what would have been right.
use Rattle.std.specs.Prelude.{ℕ, List, ◌++◌, Option, None, Some}
use Rattle.edit_script.specs.declared.command.Command.{Command}
use Rattle.edit_history.specs.Session.{Session}
use Rattle.edit_history.specs.declared.fault.EditFault.{EditFault}
use Rattle.branches.specs.declared.reply.Refusal.{Refusal}
use Rattle.branches.specs.declared.reply.Refusal.TheVariants as refusal
use Rattle.branches.specs.Replies.{Said, refusal_texts, refused}
use Rattle.study_answers.specs.Answers.{AnswerValue}
use Rattle.study_answers.specs.declared.answer.Outcome.{Outcome}
use Rattle.study_answers.specs.declared.answer.Outcome.TheVariants.{Accepted, Refused, Failed}
use Rattle.refusal_hints.specs.Advice.{HintValue, hint_text}
use Rattle.refusal_hints.specs.CommandHints.{command_hint}
use Rattle.study_session.specs.Contexts.{ContextValue, situation}
use Rattle.study_session.specs.Formats.{in_format, refused_document}

unfoldable pub with_hint : HintValue → AnswerValue → AnswerValue
with_hint hint answer = record answer { error = answer.error ++ hint_text hint }

-- the same in a form of answers, for a code and its name: a document has the hint, too
unfoldable pub refused_with : ContextValue → List ℕ × List ℕ → HintValue → AnswerValue → AnswerValue
refused_with x texts hint answer =
    record (with_hint hint answer) { text = in_format x.format answer.text (refused_document x texts hint) }

-- the reason of a refusal, where an edit is refused
abbrev pub edit_fault : Refusal → Option EditFault
edit_fault (refusal.Edit why) = Some why
edit_fault (refusal.Undo why) = None
edit_fault (refusal.Redo why) = None
edit_fault (refusal.Table why) = None

-- the answer to a command, where it is refused, with a hint
unfoldable pub command_explained : ContextValue → Session → Command → Said → AnswerValue → AnswerValue
command_explained x s c (refused why) answer = refused_with x (refusal_texts why) (command_hint (situation x s) x.words c (edit_fault why)) answer
command_explained x s c said answer = answer

abbrev pub explained_as : Outcome → HintValue → AnswerValue → AnswerValue
explained_as Accepted hint answer = answer
explained_as Refused hint answer = with_hint hint answer
explained_as Failed hint answer = answer

-- any answer that is a text, where it refuses a line, with a hint
unfoldable pub explained : HintValue → AnswerValue → AnswerValue
explained hint answer = explained_as answer.outcome hint answer
