-- The answers to commands of `ospf-plan`.
use Rattle.std.specs.Prelude.{ℕ, List, [], ◌++◌, length, Option, None, Some, codes, decimal}
use Rattle.edit_history.specs.Session.{Session, state}
use Rattle.edit_script.specs.declared.command.Command.{Command}
use Rattle.branches.specs.Replies.{Said, after, compared, counted, done, mark_of, refusal_texts, refused, reply_text, reply_to, table, tables}
use Rattle.study_text.specs.Lists.{lines_of}
use Rattle.study_text.specs.Shown.{Called}
use Rattle.lsa_differences.specs.Differences.{differences}
use Rattle.lsa_differences.specs.DifferenceTexts.{difference_text}
use Rattle.lsa_differences.specs.declared.line.DifferenceLine.{DifferenceLine}
use Rattle.study_answers.specs.Answers.{AnswerValue, accepted_answer, refused_answer}
use Rattle.study_json.specs.Fields.{Fields, more_text}
use Rattle.study_json.specs.Tables.{table_json}
use Rattle.study_documents.specs.Compared.{compare_reply, route_changes}
use Rattle.study_documents.specs.Replies.{info_reply, listing, table_reply}
use Rattle.finding_json.specs.Differences.{differences_reply}
use Rattle.study_session.specs.Contexts.{ContextValue}
use Rattle.study_session.specs.Formats.{document, front, in_format}
use Rattle.study_session.specs.Explained.{command_explained}

-- the members of its document: what it asked for
abbrev pub said_fields : Said → Fields
said_fields done = []
said_fields (refused why) = []
said_fields (table t) = table_reply t
said_fields (tables ts) = listing (codes "tables") table_json ts
said_fields (compared router before now) = compare_reply router (route_changes before.routes now.routes)
said_fields (counted info) = info_reply info

-- what became of a command that is not refused
abbrev pub became : Said → List ℕ
became done = codes "ok"
became said = codes "reply"

-- the answer to a command of `ospf-plan`: its reply
unfoldable pub plan_answer : ContextValue → Said → AnswerValue
plan_answer x (refused why) = refused_answer x.branch (refusal_texts why)
plan_answer x said = accepted_answer (in_format x.format (reply_text x.branch said) (document x (became said) (said_fields said)))

-- the same of an edit that says what it changed, up to the end of the line or of the lines
unfoldable pub changed_answer : ContextValue → List ℕ → Said → AnswerValue
changed_answer x change done = accepted_answer (in_format x.format (mark_of x.branch ++ codes "ok") (front x (codes "ok")) ++ change)
changed_answer x change said = plan_answer x said

-- the same of any command, where an edit may say what it changed
unfoldable pub answer_by : ContextValue → Option (List ℕ) → Said → AnswerValue
answer_by x None said = plan_answer x said
answer_by x (Some change) said = changed_answer x change said

-- the answer to a command in a branch with this session
unfoldable pub command_answer : ContextValue → Session → Command → Option (List ℕ) → AnswerValue
command_answer x s c change = command_explained x s c (reply_to s c) (answer_by x change (reply_to s c))

-- ` N`, and a line for each of the things that differ
abbrev pub differences_text : Called → List DifferenceLine → List ℕ
differences_text called lines =
    codes " " ++ decimal (length lines) ++ codes "\n" ++ lines_of (difference_text called) lines

-- the same in a form of answers
unfoldable pub differing_text : ContextValue → List DifferenceLine → List ℕ
differing_text x lines = in_format x.format (differences_text x.called lines) (more_text (differences_reply lines))

-- an edit says how the database differs from that before it
unfoldable pub differing_answer : ContextValue → Session → Command → AnswerValue
differing_answer x s c = command_answer x s c (Some (differing_text x (differences (state s) (state (after s c)))))
