use Rattle.std.proofs.Common.{true, None, ap}
use Rattle.std.specs.Option.{option_map_or}
use Rattle.std.specs.Ordering.{is_lt}
use Rattle.lsa_codec.specs.Order.{prefix_cmp}
use Rattle.best_ways.specs.Values.{RouteValue}
use Rattle.external_routes.proofs.Items.{item_found}
use Rattle.external_routes.proofs.place.is_ahead.Goals as goal

pub returns-in-None : goal.returns-in-None
returns-in-None g c =
    ap (λ o. option_map_or (λ (r : RouteValue). is_lt (prefix_cmp c.args.net r.net)) o true)
    (item_found c.args.routes.now c.args.place None c.in-None.ensures.lookup.0 c.in-None.ensures.lookup.1)
