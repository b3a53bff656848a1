use Rattle.std.proofs.Common.{◌≡◌, ◌∙◌, List, ap}
use Rattle.lsdb.specs.Slots.{lists_of}
use Rattle.area_routes.specs.Inter.{inter_of}
use Rattle.area_routes.specs.Intra.{intra_of}
use Rattle.area_routes.specs.Values.{EntryValue, InterValue}
use Rattle.best_ways.specs.Values.{RouteValue}
use Rattle.routing_table.specs.Preferring.{preferring}
use Rattle.routing_table.specs.Tables.{inside, inter_result}
use Rattle.audit_routes.specs.Ways.{WaysValue}
use Rattle.audit_routes.proofs.ways.ways_from.Goals as goal

pub returns : goal.returns
returns g c =
    let db = lists_of c.args.database.now in
    let router = c.args.router in
    let results = c.args.results.now in
    let parts : InterValue = record { routes = c.inter-2.inside.routes; routers = c.inter-2.inside.routers } in
    let found : parts ≡ inter_result db router results =
    c.inter-2.view_is ∙ c.in_ok-inter.ensures ∙ ap (λ (intra : List RouteValue). inter_of db router results intra) c.in_ok-intra.ensures.routes in
    let routes : c.in_ok-routes.routes ≡ inside db router results =
    c.in_ok-routes.ensures ∙ ap (λ (rs : List RouteValue). preferring rs parts.routes) c.in_ok-intra.ensures.routes
    ∙ ap (λ (i : InterValue). preferring (intra_of results) i.routes) found in
    let value : List RouteValue → List EntryValue → WaysValue = λ rs es. record { router = router; routes = rs; entries = es } in
    c.new.ensures ∙ ap (λ (rs : List RouteValue). value rs parts.routers) routes ∙ ap (λ (i : InterValue). value (inside db router results) i.routers) found
