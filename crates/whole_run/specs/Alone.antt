-- What the lines of one branch are answered among those of others.
use Rattle.std.specs.Prelude.{ℕ, ◌==◌, if◌then◌else◌, Bool, false, List, [], ◌∷◌, ◌++◌, Result, Ok, Err}
use Rattle.edit_script.specs.declared.command.Command.{Command}
use Rattle.edit_script.specs.declared.fault.ScriptFault.{ScriptFault}
use Rattle.edit_script.specs.Line.{meaning}
use Rattle.edit_history.specs.Session.{Session}
use Rattle.branches.specs.Branches.{Sessions}
use Rattle.branches.specs.Replies.{Answer, after}
use Rattle.whole_run.specs.Run.{answer_to, after_line}

-- a line that means a command in this branch
abbrev pub is_in : ℕ → Result (ℕ × Command) ScriptFault → Bool
is_in branch (Err fault) = false
is_in branch (Ok (other, command)) = other == branch

-- the lines of one branch, in order
abbrev pub lines_in : ℕ → List (List ℕ) → List (List ℕ)
lines_in branch [] = []
lines_in branch (line ∷ lines) = if is_in branch (meaning line) then line ∷ lines_in branch lines else lines_in branch lines

-- what they are answered where all lines are carried out, each from the sessions that the lines before it left
abbrev pub answers_in : ℕ → Sessions → List (List ℕ) → List Answer
answers_in branch all [] = []
answers_in branch all (line ∷ lines) =
    (if is_in branch (meaning line) then answer_to all (meaning line) else []) ++ answers_in branch (after_line all (meaning line)) lines

-- the command, where it is one of this branch
abbrev pub command_in : ℕ → Result (ℕ × Command) ScriptFault → List Command
command_in branch (Err fault) = []
command_in branch (Ok (other, command)) = if other == branch then command ∷ [] else []

-- the commands of one branch, in order
abbrev pub commands_in : ℕ → List (List ℕ) → List Command
commands_in branch [] = []
commands_in branch (line ∷ lines) = command_in branch (meaning line) ++ commands_in branch lines

-- the session after commands
abbrev pub after_all : Session → List Command → Session
after_all s [] = s
after_all s (c ∷ cs) = after_all (after s c) cs
