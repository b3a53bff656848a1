-- A refused command leaves the session.
use Rattle.std.proofs.Common.{◌≡◌, Bool, true, false, cond, Result, Ok, Err, refl, length}
use Rattle.std.specs.Prelude.{nat_le}
use Rattle.edit_script.specs.declared.command.Command.{Command}
use Rattle.edit_script.specs.declared.command.Command.TheVariants as command
use Rattle.edit_history.specs.declared.fault.EditFault.{EditFault}
use Rattle.edit_history.specs.Session.{Session, accepted_or, edited, moved_back, moved_on}
use Rattle.branches.specs.declared.reply.Refusal.{Refusal}
use Rattle.branches.specs.Replies.{done, refused, reply_to, after, edit_reply, is_refusal}

refused_edit : (s : Session) (r : Result Session EditFault) → is_refusal (edit_reply r) ≡ true → accepted_or s r ≡ s
refused_edit s (Ok t) is = absurd cc
refused_edit s (Err fault) is = refl

refused_move : (s t : Session) (why : Refusal) (may : Bool) → is_refusal (cond may done (refused why)) ≡ true → cond may t s ≡ s
refused_move s t why true is = absurd cc
refused_move s t why false is = refl

pub refused_stays : (s : Session) (c : Command) → is_refusal (reply_to s c) ≡ true → after s c ≡ s
refused_stays s (command.Edit edit) is = refused_edit s (edited s edit) is
refused_stays s (command.Undo k) is = refused_move s (moved_back k s) _ (nat_le k (length s.done)) is
refused_stays s (command.Redo k) is = refused_move s (moved_on k s) _ (nat_le k (length s.undone)) is
refused_stays s (command.Table router) is = refl
refused_stays s command.Tables is = refl
refused_stays s (command.Compare router) is = refl
refused_stays s command.Info is = refl
