use Rattle.std.proofs.Common.{◌≡◌, ◌∙◌, Ok, Result, ap}
use Rattle.lsdb.specs.Lists.{Lists}
use Rattle.lsdb.specs.Slots.{Slots, lists_of}
use Rattle.edit_script.specs.declared.edit.Edit.TheVariants.{Refresh}
use Rattle.edit_history.specs.Effect.{effect}
use Rattle.edit_history.specs.declared.fault.EditFault.{EditFault}
use Rattle.summary_metrics.specs.Refreshed.{refreshed}
use Rattle.audit_routes.proofs.refreshed.refreshed.Goals as goal

-- what went well is one thing
same_ok : (a b : Lists) (r : Result Lists EditFault) → r ≡ Ok a → r ≡ Ok b → a ≡ b
same_ok a b r one other = cc

pub returns-in-Ok : goal.returns-in-Ok
returns-in-Ok g c =
    let left : effect (lists_of c.in_ok-after.after) Refresh ≡ Ok (lists_of c.apply.new.database) = c.in-Ok.ensures.applied.leads in
    same_ok (lists_of c.apply.new.database) (refreshed (lists_of c.args.database.now)) _ left
    (c.refresh_settles.ensures.effect (lists_of c.in_ok-after.after)
    ∙ ap (λ (d : Slots). let r : Result Lists EditFault = Ok (refreshed (lists_of d)) in r) c.in_ok-after.ensures)
