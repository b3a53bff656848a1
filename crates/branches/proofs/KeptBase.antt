-- A command leaves the base of a session.
use Rattle.std.proofs.Common.{◌≡◌, ℕ, Bool, true, false, cond, Result, Ok, Err, refl, sym, ap, ◌∙◌}
use Rattle.std.proofs.Common.{length, ltb}
use Rattle.std.specs.Prelude.{nat_le}
use Rattle.lsdb.specs.Lists.{Lists}
use Rattle.edit_script.specs.declared.edit.Edit.{Edit}
use Rattle.edit_script.specs.declared.command.Command.{Command}
use Rattle.edit_script.specs.declared.command.Command.TheVariants as command
use Rattle.edit_history.specs.declared.fault.EditFault.{EditFault}
use Rattle.edit_history.specs.declared.fault.EditFault.TheVariants.{HistoryFull}
use Rattle.edit_history.specs.Effect.{effect}
use Rattle.edit_history.specs.Session.{Session, edited, accepted, accepted_or, state, most_edits, moved_back, moved_on}
use Rattle.branches.specs.Replies.{after}

accepted_base : (s : Session) (e : Edit) (r : Result Lists EditFault) → (accepted_or s (accepted s e r)).base ≡ s.base
accepted_base s e (Ok db) = refl
accepted_base s e (Err fault) = refl

edited_base : (s : Session) (e : Edit) (r : Result Lists EditFault) (room : Bool)
    → (accepted_or s (cond room (accepted s e r) (Err HistoryFull))).base ≡ s.base
edited_base s e r true = accepted_base s e r
edited_base s e r false = refl

undone_base : (s : Session) (k : ℕ) (may : Bool) → (cond may (moved_back k s) s).base ≡ s.base
undone_base s k true = refl
undone_base s k false = refl

redone_base : (s : Session) (k : ℕ) (may : Bool) → (cond may (moved_on k s) s).base ≡ s.base
redone_base s k true = refl
redone_base s k false = refl

pub after_base : (s : Session) (c : Command) → (after s c).base ≡ s.base
unfolding edited
after_base s (command.Edit e) = edited_base s e (effect (state s) e) (ltb (length s.done) most_edits)
after_base s (command.Undo k) = undone_base s k (nat_le k (length s.done))
after_base s (command.Redo k) = redone_base s k (nat_le k (length s.undone))
after_base s (command.Table router) = refl
after_base s command.Tables = refl
after_base s (command.Compare router) = refl
after_base s command.Info = refl

pub edited_keeps_base : (s t : Session) (e : Edit) → edited s e ≡ Ok t → t.base ≡ s.base
edited_keeps_base s t e is = ap (λ r. (accepted_or s r).base) (sym is) ∙ after_base s (command.Edit e)
