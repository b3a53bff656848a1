-- What a line of a study means: nothing, a branch and what is asked for, or its first fault.
use Rattle.std.specs.Prelude.{ℕ, ◌==◌, Bool, List, [], ◌∷◌, Option, Some, None, Result, Ok, Err, if◌then◌else◌, slice_index, ok_or}
use Rattle.edit_script.specs.declared.command.Command.{Command}
use Rattle.edit_script.specs.declared.fault.ScriptFault.{ScriptFault}
use Rattle.text_words.specs.Numbers.{number_up_to}
use Rattle.edit_script.specs.Words.{Word, words}
use Rattle.edit_script.specs.Line.{meaning as plan_meaning}
use Rattle.study_words.specs.declared.study_word.StudyWord.{StudyWord}
use Rattle.study_words.specs.declared.study_word.StudyWord.TheVariants as study_word
use Rattle.study_words.specs.StudyWords.{study_word_of}
use Rattle.study_script.specs.declared.command.StudyCommand.{StudyCommand}
use Rattle.study_script.specs.declared.command.StudyCommand.TheVariants as study
use Rattle.study_script.specs.declared.named_command.NamedCommand.{NamedCommand}
use Rattle.study_script.specs.declared.question.Question.{Question}
use Rattle.study_arguments.specs.Fault.{◌>>=◌, FaultAt, bad_branch, made, unknown_word}
use Rattle.study_arguments.specs.Positions.{At, next}
use Rattle.study_arguments.specs.Values.{Lookup}
use Rattle.study_script.specs.PlanLines.{plan_line_of}
use Rattle.study_script.specs.EventLines.{event_line_of}
use Rattle.study_script.specs.Questions.{question_of}
use Rattle.study_script.specs.Expected.{Expected, expectation}
use Rattle.study_script.specs.Conditions.{expectation_of}

-- what a line asks for
pub data Asked : Type 0 where
  plan : Command → Asked
  named : NamedCommand → Asked
  see : Question → Asked
  expect : Bool → Expected → Asked

abbrev pub asked : {A : Type 0} → StudyCommand A → Asked
asked (study.Plan c) = plan c
asked (study.Named c) = named c
asked (study.See question) = see question
asked (study.Expect e) = expect (expectation e).0 (expectation e).1

-- the command word, which is this line's, and the words after it
abbrev pub asked_by : Lookup → At → StudyWord → Result Asked FaultAt
asked_by names line (study_word.Plan w) = made named (plan_line_of names w line)
asked_by names line (study_word.See w) = made see (question_of names w line)
asked_by names line (study_word.Event w) = made named (event_line_of names w line)
asked_by names line study_word.Expect = expectation_of names line >>= λ e. Ok (expect e.0 e.1)

unfoldable pub asked_of : Lookup → At → Result Asked FaultAt
asked_of names line = ok_or (study_word_of line.0) (unknown_word line.0) >>= asked_by names line

-- the branch that a word names: a number 0 to 7 after its `@`
abbrev pub branch_digit : Word → Option ℕ
branch_digit [] = None
branch_digit (at_sign ∷ digit) = number_up_to 7 digit

abbrev pub branch_of : Word → Result ℕ FaultAt
branch_of word = ok_or (branch_digit word) (bad_branch word)

abbrev pub in_branch : ℕ → Result Asked FaultAt → Result (Option (ℕ × Asked)) FaultAt
in_branch branch given = given >>= λ what. Ok (Some (branch, what))

-- the word after that of the branch, and those after it
unfoldable pub after_branch : Lookup → At → Result (Option (ℕ × Asked)) FaultAt
after_branch names line = do
  branch ← branch_of line.0
  first ← next line
  in_branch branch (asked_of names first)

-- a line without words, and a comment, whose first word begins with `#` (35), mean nothing; a first word that begins with `@` (64)
-- names the branch, which is 0 otherwise
unfoldable pub study_meaning : Lookup → List Word → Result (Option (ℕ × Asked)) FaultAt
study_meaning names [] = Ok None
study_meaning names (first ∷ rest) =
    if slice_index first 0 == 35 then Ok None
    else if slice_index first 0 == 64 then after_branch names (first, rest)
    else in_branch 0 (asked_of names (first, rest))

abbrev pub plan_or_study : Lookup → List Word → Result (ℕ × Command) ScriptFault → Result (Option (ℕ × Asked)) FaultAt
plan_or_study names line (Ok found) = Ok (Some (found.0, plan found.1))
plan_or_study names line (Err fault) = study_meaning names line

-- a line that `ospf-plan` takes means the same
unfoldable pub meaning : Lookup → List ℕ → Result (Option (ℕ × Asked)) FaultAt
meaning names line = plan_or_study names (words line) (plan_meaning line)
