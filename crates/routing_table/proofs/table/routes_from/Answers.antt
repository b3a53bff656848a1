use Rattle.std.proofs.Common.{◌≡◌, IfOk, List, ◌∙◌, ap, subst}
use Rattle.lsdb.specs.Slots.{lists_of}
use Rattle.area_routes.specs.Intra.{intra_of}
use Rattle.area_routes.specs.Values.{AreaResultValue, InterValue}
use Rattle.best_ways.specs.Values.{RouteValue}
use Rattle.routing_table.specs.Preferring.{preferring}
use Rattle.routing_table.proofs.Tabled.{if_routes, inter_after}
use Rattle.routing_table.proofs.table.routes_from.Goals as goal

pub returns : goal.returns
returns g c =
    let db = lists_of c.args.database.now in
    let inter : InterValue = record { routes = c.inter-2.inside.routes; routers = c.inter-2.inside.routers } in
    let external = c.in_ok-external.external in
    if_routes db c.args.router c.args.results.items (λ v. v) c.in_ok-intra.intra c.in_ok-inside.inside external inter c.prefer.result
    (c.in_ok-intra.ensures.routes ∙ ap (λ (rs : List AreaResultValue). intra_of rs) c.deref_mut.ensures.value)
    (c.inter-2.view_is ∙ c.in_ok-inter.ensures
    ∙ inter_after db c.args.router c.args.results.items c.deref_mut.result.now c.take_intra.new.results c.deref.result.now _ c.args.results.len c.in_ok-intra.intra
    c.args.results.ok.0 c.deref_mut.ensures.value c.in_ok-intra.ensures.rest c.deref.ensures.value)
    c.in_ok-inside.ensures.routes
    c.in_ok-external.ensures.routes
    (subst (λ (l : List RouteValue). IfOk c.prefer.result (λ v. v ≡ preferring l external)) c.into_routes.ensures.routes c.prefer.ensures.routes)
