-- The edits that lines of a script mean.
use Rattle.std.specs.Prelude.{◌≡◌, ℕ, List, map, Option, None, Some, Result, Ok, Err}
use Rattle.std.specs.Borrow.{Bor}
use Rattle.edit_script.specs.declared.edit.Edit.{Edit}
use Rattle.edit_script.specs.declared.command.Command.{Command}
use Rattle.edit_script.specs.declared.command.Command.TheVariants as command
use Rattle.edit_script.specs.declared.fault.ScriptFault.{ScriptFault}
use Rattle.edit_script.specs.Line.{meaning}

-- the edit, where a line means one
abbrev pub edit_meant : Result (ℕ × Command) ScriptFault → Option Edit
edit_meant (Ok (branch, command.Edit edit)) = Some edit
edit_meant (Ok (branch, other)) = None
edit_meant (Err fault) = None

-- the edit that a line means, in any branch
abbrev pub edit_in : List ℕ → Option Edit
edit_in line = edit_meant (meaning line)

-- what lines mean, one after another
abbrev pub edits_in : List (Bor (List ℕ)) → List (Option Edit)
edits_in lines = map (λ (line : Bor (List ℕ)). edit_in line.now) lines

-- the lines mean these edits and nothing else
abbrev pub Mean : List (Bor (List ℕ)) → List Edit → Type 0
Mean lines edits = edits_in lines ≡ map (λ (edit : Edit). Some edit) edits
