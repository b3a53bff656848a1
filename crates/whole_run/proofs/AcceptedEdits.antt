-- What stays with each command in each branch stays with each line.
use Rattle.std.proofs.Common.{◌≡◌, ℕ, List, [], ◌∷◌, Result, Ok, Err, refl}
use Rattle.edit_script.specs.declared.command.Command.{Command}
use Rattle.edit_script.specs.declared.fault.ScriptFault.{ScriptFault}
use Rattle.edit_script.specs.Line.{meaning}
use Rattle.edit_history.specs.Session.{Session}
use Rattle.branches.specs.Branches.{Sessions, with_session}
use Rattle.branches.specs.Replies.{after}
use Rattle.whole_run.specs.Run.{after_line, sessions_after}

module _ (Fits : Command → Type 0) (Holds : Session → Type 0) where
  -- it holds in each branch
  abbrev HoldsInAll : Sessions → Type 0
  HoldsInAll all = (branch : ℕ) → Holds (all branch)

  -- so it stays where a branch is given a command that fits
  abbrev pub Stays : Type 0
  Stays = (all : Sessions) (branch : ℕ) (c : Command) → Fits c → HoldsInAll all
      → (other : ℕ) → Holds (with_session branch (after (all branch) c) all other)

  -- each line means one that does
  abbrev pub LinesFit : Type 0
  LinesFit = (line : List ℕ) (branch : ℕ) (c : Command) → meaning line ≡ Ok (branch, c) → Fits c

  line_keeps : Stays → LinesFit → (all : Sessions) (line : List ℕ) (m : Result (ℕ × Command) ScriptFault) → meaning line ≡ m → HoldsInAll all
      → HoldsInAll (after_line all m)
  line_keeps law fit all line (Err fault) means here = here
  line_keeps law fit all line (Ok (branch, c)) means here = law all branch c (fit line branch c means) here

  pub lines_keep : Stays → LinesFit → (all : Sessions) (lines : List (List ℕ)) → HoldsInAll all → (branch : ℕ) → Holds (sessions_after all lines branch)
  unfolding sessions_after
  lines_keep law fit all [] here branch = here branch
  lines_keep law fit all (line ∷ lines) here branch =
      lines_keep law fit (after_line all (meaning line)) lines (line_keeps law fit all line (meaning line) refl here) branch
