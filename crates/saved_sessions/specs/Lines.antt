-- The lines of edits in the dump of a session.
use Rattle.std.specs.Prelude.{ℕ, ◌+◌, ◌==◌, List, [], ◌∷◌, ◌++◌, take, position, Option, Some, None, option_map, Result, Ok, Err, bytes_eq, if◌then◌else◌}
use Rattle.std.specs.List.{flat_map}
use Rattle.edit_script.specs.declared.command.Command.{Command}
use Rattle.edit_script.specs.declared.command.Command.TheVariants as command
use Rattle.edit_script.specs.declared.edit.Edit.{Edit}
use Rattle.edit_script.specs.declared.fault.ScriptFault.{ScriptFault}
use Rattle.edit_script.specs.Line.{meaning}
use Rattle.edit_script.specs.Spelling.{spelling}

-- a line feed
abbrev pub line_feed : ℕ
line_feed = 10

-- the edit as it is printed, and a line feed
abbrev pub line_of : Edit → List ℕ
line_of edit = spelling edit ++ line_feed ∷ []

-- the maximum number of bytes of a line: that of an AS-external-LSA that is added, with each number
-- at its longest
abbrev pub longest_line : ℕ
longest_line = 86

abbrev pub lines_of : List Edit → List ℕ
lines_of edits = flat_map line_of edits

-- the edit, where the line is its spelling
abbrev pub if_spelled : List ℕ → Edit → Option Edit
if_spelled line edit = if bytes_eq line (spelling edit) then Some edit else None

abbrev pub edit_in : List ℕ → Command → Option Edit
edit_in line (command.Edit edit) = if_spelled line edit
edit_in line _ = None

abbrev pub edit_meant : List ℕ → Result (ℕ × Command) ScriptFault → Option Edit
edit_meant line (Ok found) = edit_in line found.1
edit_meant line (Err fault) = None

-- the edit that a line spells, as it is printed and no other way
abbrev pub edit_spelled : List ℕ → Option Edit
edit_spelled line = edit_meant line (meaning line)

abbrev pub line_up_to : List ℕ → Option ℕ → Option (Edit × ℕ)
line_up_to bytes None = None
line_up_to bytes (Some end) = option_map (λ edit. (edit, end + 1)) (edit_spelled (take end bytes))

-- the edit of the first line, and the length in bytes of that line with its line feed
unfoldable pub edit_line : List ℕ → Option (Edit × ℕ)
edit_line bytes = line_up_to bytes (position (λ b. b == line_feed) bytes)
