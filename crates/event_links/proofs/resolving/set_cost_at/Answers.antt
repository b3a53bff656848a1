use Rattle.std.proofs.Common.{◌≡◌, sym, ap, ◌∙◌}
use Rattle.lsdb.specs.Slots.{lists_of}
use Rattle.event_links.specs.Events.{set_stub_cost}
use Rattle.event_links.proofs.Edits.{cost_of_stub, answered}
use Rattle.event_links.proofs.resolving.set_cost_at.Goals as goal

pub returns-then-not-has_link : goal.returns-then-not-has_link
returns-then-not-has_link g c =
    answered c.set_stub_cost.result _
    (cost_of_stub (lists_of c.args.database.now) c.args.router c.args.address c.args.metric (sym c.in_ok-has_link.ensures ∙ c.if-not-has_link.true)
    ∙ ap (set_stub_cost c.args.router c.args.address c.args.metric) (sym c.in_ok-mask.ensures) ∙ sym c.set_stub_cost.ensures)
