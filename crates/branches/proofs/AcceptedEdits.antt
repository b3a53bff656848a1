-- What holds at each start, and stays so with each edit, undo and redo, holds of each branch after each command.
use Rattle.std.proofs.Common.{◌≡◌, ℕ, Bool, true, false, cond, eqb, length, Result, Ok, Err, refl}
use Rattle.std.specs.Prelude.{nat_le}
use Rattle.lsdb.specs.Lists.{Lists}
use Rattle.edit_script.specs.declared.edit.Edit.{Edit}
use Rattle.edit_script.specs.declared.command.Command.{Command}
use Rattle.edit_script.specs.declared.command.Command.TheVariants as command
use Rattle.edit_history.specs.declared.fault.EditFault.{EditFault}
use Rattle.edit_history.specs.Session.{Session, accepted_or, edited, moved_back, moved_on, start}
use Rattle.branches.specs.Branches.{Sessions, resumed, with_session}
use Rattle.branches.specs.Replies.{after}

-- it holds at the start, and stays so after each edit of a command that fits, and after each undo and redo
pub record Stays (Fits : Command → Type 0) (Holds : Session → Type 0) : Type 0 where
  pub start : (db : Lists) → Holds (start db)
  pub edited : (s t : Session) (edit : Edit) → Fits (command.Edit edit) → Holds s → edited s edit ≡ Ok t → Holds t
  pub undone : (s : Session) (k : ℕ) → Holds s → Holds (moved_back k s)
  pub redone : (s : Session) (k : ℕ) → Holds s → Holds (moved_on k s)

module _ (Fits : Command → Type 0) (Holds : Session → Type 0) (law : Stays Fits Holds) where
  holds_if : (b : Bool) (s t : Session) → Holds s → Holds t → Holds (cond b s t)
  holds_if true s t one two = one
  holds_if false s t one two = two

  pub holds_after : (s : Session) (c : Command) → Fits c → Holds s → Holds (after s c)
  holds_after s (command.Edit e) fits here = by_answer (edited s e) refl where
    by_answer : (r : Result Session EditFault) → edited s e ≡ r → Holds (accepted_or s r)
    by_answer (Ok t) is = law.edited s t e fits here is
    by_answer (Err fault) is = here
  holds_after s (command.Undo k) fits here = holds_if (nat_le k (length s.done)) (moved_back k s) s (law.undone s k here) here
  holds_after s (command.Redo k) fits here = holds_if (nat_le k (length s.undone)) (moved_on k s) s (law.redone s k here) here
  holds_after s (command.Table router) fits here = here
  holds_after s command.Tables fits here = here
  holds_after s (command.Compare router) fits here = here
  holds_after s command.Info fits here = here

  pub holds_resumed : (s : Session) (branch : ℕ) → Holds s → Holds (resumed s branch)
  holds_resumed s branch here = holds_if (eqb branch 0) s (start s.base) here (law.start s.base)

  pub holds_stepped : (all : Sessions) (branch : ℕ) (c : Command) → Fits c → ((other : ℕ) → Holds (all other))
      → (other : ℕ) → Holds (with_session branch (after (all branch) c) all other)
  holds_stepped all branch c fits here other =
      holds_if (eqb branch other) (after (all branch) c) (all other) (holds_after (all branch) c fits (here branch)) (here other)
