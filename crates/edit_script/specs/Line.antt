-- What a line of a script means: a branch and a command, or its first fault.
use Rattle.std.specs.Prelude.{ℕ, ◌==◌, List, [], ◌∷◌, Result, Ok, Err, if◌then◌else◌, slice_index, ok_or}
use Rattle.edit_script.specs.declared.command.Command.{Command}
use Rattle.edit_script.specs.declared.fault.ScriptFault.{ScriptFault}
use Rattle.edit_script.specs.declared.fault.ScriptFault.TheVariants.{Empty, MissingWord, BadBranch}
use Rattle.edit_script.specs.Words.{Word, words}
use Rattle.text_words.specs.Numbers.{number_up_to}
use Rattle.edit_script.specs.Reading.{◌>>=◌, command_of}

-- the branch that a word names: a number 0 to 7 after its `@`
abbrev pub branch_of : Word → Result ℕ ScriptFault
branch_of [] = Err BadBranch
branch_of (at ∷ digit) = ok_or (number_up_to 7 digit) BadBranch

abbrev pub in_branch : ℕ → Result Command ScriptFault → Result (ℕ × Command) ScriptFault
in_branch branch given = given >>= λ c. Ok (branch, c)

-- the words after the branch: a command word and its arguments
unfoldable pub after_branch : ℕ → List Word → Result (ℕ × Command) ScriptFault
after_branch branch [] = Err MissingWord
after_branch branch (word ∷ arguments) = in_branch branch (command_of word arguments)

-- a first word that begins with `#` (35) is a comment, and one that begins with `@` (64) names the branch; otherwise the branch is
-- 0
unfoldable pub meaning_of_words : List Word → Result (ℕ × Command) ScriptFault
meaning_of_words [] = Err Empty
meaning_of_words (first ∷ rest) =
    if slice_index first 0 == 35 then Err Empty
    else if slice_index first 0 == 64 then branch_of first >>= (λ branch. after_branch branch rest)
    else in_branch 0 (command_of first rest)

abbrev pub meaning : List ℕ → Result (ℕ × Command) ScriptFault
meaning line = meaning_of_words (words line)
