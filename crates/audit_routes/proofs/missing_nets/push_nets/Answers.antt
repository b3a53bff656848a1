use Rattle.std.proofs.Common.{[], ◌++◌, ◌∙◌, List, Option, ap}
use Rattle.std.specs.List.{cons_option, filter_map}
use Rattle.lsa_codec.specs.declared.address.RouterId.{RouterId}
use Rattle.area_routes.proofs.AddsLemmas.{filter_map_adds}
use Rattle.best_ways.specs.Values.{RouteValue}
use Rattle.audit_places.specs.Places.{PlaceValue}
use Rattle.audit_routes.specs.Missing.{missing_net}
use Rattle.audit_routes.proofs.Loops.{begun, ended, one_more}
use Rattle.audit_routes.proofs.missing_nets.push_nets.Goals as goal

pub loop-route-init : goal.loop-route-init
loop-route-init g c =
    begun (filter_map_adds (missing_net c.args.area c.args.ways.now.router c.args.nets.now.keys)) c.args.places.now.items c.as_slice-route-items.result.now

pub loop-route-preserved : goal.loop-route-preserved
loop-route-preserved g c =
    let nets = c.args.nets.now.keys in
    let r : RouteValue = c.route-item.result in
    one_more (filter_map_adds (missing_net c.args.area c.args.ways.now.router nets)) c.args.places.now.items c.as_slice-route-items.result.now
    c.loop-route.route-index r c.loop-route.places.items _ c.loop-route-test.true c.route-item.is c.loop-route.invariant
    (c.in_ok-push_some.ensures
    ∙ ap (λ (o : Option PlaceValue). c.loop-route.places.items ++ cons_option o [])
    (c.missing_net.ensures ∙ ap (λ (router : RouterId). missing_net c.args.area router nets r) c.router.ensures))

pub returns : goal.returns
returns g c =
    let nets = c.args.nets.now.keys in
    ended (filter_map_adds (missing_net c.args.area c.args.ways.now.router nets)) c.args.places.now.items c.as_slice-route-items.result.now
    c.loop-route.route-index c.loop-route.places.items c.loop-route-test.false c.loop-route.invariant
    ∙ ap (λ (routes : List RouteValue). c.args.places.now.items ++ filter_map (missing_net c.args.area c.args.ways.now.router nets) routes)
    (c.as_slice-route-items.ensures.routes ∙ c.as_routes.ensures.routes ∙ c.routes.ensures)
