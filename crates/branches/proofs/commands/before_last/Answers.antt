use Rattle.std.proofs.Common.{◌∙◌, Some, ap, sym}
use Rattle.lsdb.specs.Slots.{Slots, lists_of}
use Rattle.edit_history.specs.Session.{moved_on, state}
use Rattle.branches.proofs.MovedBack.{before_is}
use Rattle.branches.proofs.commands.before_last.Goals as goal

pub returns-in_ok-copy-in-Ok-clause-database : goal.returns-in_ok-copy-in-Ok-clause-database
returns-in_ok-copy-in-Ok-clause-database g c =
    ap (λ (d : Slots). Some (lists_of d)) c.in_ok-copy-in-Ok.ensures
    ∙ ap Some (c.database.ensures.state ∙ ap state c.in-Ok.ensures.session)
    ∙ sym (before_is c.args.planner.now.session c.args.count c.in-Ok.ensures.step.ok.taken)

pub returns-in_ok-copy-in-Ok-clause-kept : goal.returns-in_ok-copy-in-Ok-clause-kept
returns-in_ok-copy-in-Ok-clause-kept g c =
    c.redo_all.ensures ∙ ap (moved_on c.args.count) c.in-Ok.ensures.session
    ∙ c.moves.ensures.redone c.args.planner.now.session c.args.count c.in-Ok.ensures.step.ok.taken
