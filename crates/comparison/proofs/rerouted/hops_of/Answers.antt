use Rattle.std.proofs.Common.{List, ◌++◌, ap, ◌∙◌}
use Rattle.std.proofs.lemmas.List.{take_all}
use Rattle.area_graph.specs.Rising.{rising}
use Rattle.best_ways.specs.Values.{RouteValue}
use Rattle.next_hops.specs.Hop.{hop_cmp}
use Rattle.next_hops.specs.declared.hop.Hop.{Hop}
use Rattle.comparison.specs.Rerouted.{hops_of}
use Rattle.comparison.proofs.Steps.{joined}
use Rattle.comparison.proofs.rerouted.hops_of.Goals as goal

pub loop-route-preserved : goal.loop-route-preserved
loop-route-preserved g c =
    joined c.args.routes.now c.loop-route.route-index c.route-item.result c.loop-route.hops _ c.loop-route-test.true c.route-item.is
    c.loop-route.invariant
    (c.in_ok-join.ensures.joined
    ∙ ap (λ (l : List Hop). rising hop_cmp (c.loop-route.hops ++ l)) (c.as_slice.ensures.hops ∙ ap (λ (r : RouteValue). r.hops) c.route.view_is))

pub returns : goal.returns
returns g c = c.loop-route.invariant ∙ ap hops_of (take_all c.loop-route.route-index c.args.routes.now c.loop-route-test.false)
