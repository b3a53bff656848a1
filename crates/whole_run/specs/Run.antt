-- What a script is answered, line by line, and the database and the session that it leaves.
use Rattle.std.specs.Prelude.{ℕ, ◌==◌, List, [], ◌∷◌, ◌++◌, Result, Ok, Err, true}
use Rattle.std.specs.List.{slice_split, flat_map}
use Rattle.lsdb.specs.declared.fault.DumpFault.{DumpFault}
use Rattle.lsdb.specs.Text.{text}
use Rattle.edit_script.specs.declared.command.Command.{Command}
use Rattle.edit_script.specs.declared.fault.ScriptFault.{ScriptFault}
use Rattle.edit_script.specs.declared.fault.ScriptFault.TheVariants.{Empty}
use Rattle.edit_script.specs.Line.{meaning}
use Rattle.edit_history.specs.Session.{Session, state}
use Rattle.saved_sessions.specs.Opening.{opened}
use Rattle.saved_sessions.specs.Saved.{saved_text}
use Rattle.branches.specs.Branches.{Sessions, resumed, with_session}
use Rattle.branches.specs.Replies.{Answer, reply_to, after, is_refusal, reply_text, script_text}

-- ---- lines

-- lines end at a line feed
abbrev pub lines_of : List ℕ → List (List ℕ)
lines_of script = slice_split (λ byte. byte == 10) script

-- what a line is answered, by its meaning: nothing, where it has no words or is a comment
abbrev pub answer_to : Sessions → Result (ℕ × Command) ScriptFault → List Answer
answer_to all (Err Empty) = []
answer_to all (Err fault) = record { text = script_text fault; refused = true } ∷ []
answer_to all (Ok (branch, command)) = record { text = reply_text branch (reply_to (all branch) command); refused = is_refusal (reply_to (all branch) command) } ∷ []

-- the sessions after a line: its command is carried out in its branch, and the other branches stay
abbrev pub after_line : Sessions → Result (ℕ × Command) ScriptFault → Sessions
after_line all (Err fault) = all
after_line all (Ok (branch, command)) = with_session branch (after (all branch) command) all

-- what lines are answered, in order, each from the sessions that the lines before it left
unfoldable pub answers : Sessions → List (List ℕ) → List Answer
answers all [] = []
answers all (line ∷ lines) = answer_to all (meaning line) ++ answers (after_line all (meaning line)) lines

-- the sessions after lines
unfoldable pub sessions_after : Sessions → List (List ℕ) → Sessions
sessions_after all [] = all
sessions_after all (line ∷ lines) = sessions_after (after_line all (meaning line)) lines

-- ---- a run

-- the branches of an opened session: branch 0 goes on with it, and the others begin at its base
abbrev pub begun : Result Session DumpFault → Result Sessions DumpFault
begun (Ok s) = Ok (resumed s)
begun (Err fault) = Err fault

abbrev pub answers_from : Result Sessions DumpFault → List (List ℕ) → List Answer
answers_from (Ok all) lines = answers all lines
answers_from (Err fault) lines = []

-- what a script is answered on a dump; a refused dump answers nothing
unfoldable pub run_answers : List ℕ → List ℕ → List Answer
run_answers dump script = answers_from (begun (opened dump)) (lines_of script)

-- the text of answers, one after another
abbrev pub text_of : List Answer → List ℕ
text_of answered = flat_map (λ answer. answer.text) answered

-- the replies that a script gives on a dump
abbrev pub run_text : List ℕ → List ℕ → List ℕ
run_text dump script = text_of (run_answers dump script)

abbrev pub dump_after : Result Sessions DumpFault → List (List ℕ) → List ℕ
dump_after (Ok all) lines = text (state (sessions_after all lines 0))
dump_after (Err fault) lines = []

-- the dump that a script leaves, which is that of branch 0: the text of its edits that are not undone, folded over
-- the loaded database
unfoldable pub final_dump : List ℕ → List ℕ → List ℕ
final_dump dump script = dump_after (begun (opened dump)) (lines_of script)

abbrev pub session_after : Result Sessions DumpFault → List (List ℕ) → List ℕ
session_after (Ok all) lines = saved_text (sessions_after all lines 0)
session_after (Err fault) lines = []

-- the session that a script leaves, which is that of branch 0, as it is saved: its base, its done edits, and its undone
-- ones
unfoldable pub final_session : List ℕ → List ℕ → List ℕ
final_session dump script = session_after (begun (opened dump)) (lines_of script)
