use Rattle.std.proofs.Common.{[], ◌++◌, ◌∙◌, Option, ap}
use Rattle.std.specs.List.{cons_option}
use Rattle.area_routes.proofs.AddsLemmas.{filter_map_adds}
use Rattle.best_ways.specs.Values.{RouteValue}
use Rattle.routing_table.specs.Preferring.{preferred_route}
use Rattle.audit_routes.proofs.Loops.{ended, one_more}
use Rattle.audit_routes.proofs.preferring.preferred_routes.Goals as goal

pub loop-net-preserved : goal.loop-net-preserved
loop-net-preserved g c =
    one_more (filter_map_adds (preferred_route c.args.first.now c.args.second.now)) [] c.args.nets.now c.loop-net.net-index c.net-item.result
    c.loop-net.routes.items _ c.loop-net-test.true c.net-item.is c.loop-net.invariant
    (c.in_ok-push_copy.ensures ∙ ap (λ (o : Option RouteValue). c.loop-net.routes.items ++ cons_option o []) c.preferred_route.ensures)

pub returns : goal.returns
returns g c =
    ended (filter_map_adds (preferred_route c.args.first.now c.args.second.now)) [] c.args.nets.now c.loop-net.net-index c.loop-net.routes.items
    c.loop-net-test.false c.loop-net.invariant
