use Rattle.std.proofs.Common.{◌≡◌, sym, ◌∙◌}
use Rattle.lsdb.specs.Slots.{lists_of}
use Rattle.event_links.proofs.Edits.{of_routers, first_refusal, through}
use Rattle.event_links.proofs.resolving.resolve.Goals as goal

pub returns-in-Some : goal.returns-in-Some
returns-in-Some g c = first_refusal (lists_of c.args.database.now) c.args.event _ (sym c.fault_of.ensures ∙ c.in-Some.is)

pub returns : goal.returns
returns g c =
    through c.edit_of.result _ _ (of_routers (lists_of c.args.database.now) c.args.event (sym c.fault_of.ensures ∙ c.in_default.is)) c.edit_of.ensures
