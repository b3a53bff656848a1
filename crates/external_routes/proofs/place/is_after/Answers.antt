use Rattle.std.proofs.Common.{Some, None, ap, ◌∙◌}
use Rattle.std.specs.Ordering.{is_lt}
use Rattle.lsa_codec.specs.Order.{prefix_cmp}
use Rattle.best_ways.specs.Values.{RouteValue}
use Rattle.external_routes.proofs.Places.{before_read}
use Rattle.external_routes.proofs.place.is_after.Goals as goal

pub returns-in-Some : goal.returns-in-Some
returns-in-Some g c =
    c.is_lt.ensures ∙ ap is_lt c.cmp.ensures ∙ ap (λ (r : RouteValue). is_lt (prefix_cmp r.net c.args.net)) c.last.view_is
    ∙ before_read c.args.net c.args.routes.now c.args.place (Some c.in-Some.last) c.if-place-eq0.false c.in-Some.ensures.lookup.0 c.in-Some.ensures.lookup.1

pub returns-in-None : goal.returns-in-None
returns-in-None g c =
    before_read c.args.net c.args.routes.now c.args.place None c.if-place-eq0.false c.in-None.ensures.lookup.0 c.in-None.ensures.lookup.1
