use Rattle.std.proofs.Common.{◌∙◌, Some, ap, sym}
use Rattle.lsdb.specs.Slots.{lists_of}
use Rattle.comparison.proofs.Outlines.{attached_routes, no_routes}
use Rattle.comparison.proofs.router_basis.routes_of.Goals as goal

pub returns-then-not-is_among : goal.returns-then-not-is_among
returns-then-not-is_among g c =
    no_routes (lists_of c.args.database.now) c.args.router c.deref.result.now (c.deref.ensures.value ∙ c.in_ok-attached.ensures)
    (sym c.is_among.ensures ∙ c.if-not-is_among.true)

pub returns : goal.returns
returns g c =
    ap Some c.in_ok-routes.ensures
    ∙ attached_routes (lists_of c.args.database.now) c.args.router c.deref.result.now (c.deref.ensures.value ∙ c.in_ok-attached.ensures)
    (sym c.is_among.ensures ∙ c.if-not-is_among.false)
