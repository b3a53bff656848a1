use Rattle.std.proofs.Common.{◌≡◌, ◌∙◌, ◌^◌, [], ◌∷◌, ◌++◌, List, map, sym, ap, subst}
use Rattle.area_routes.proofs.AddsLemmas.{map_adds}
use Rattle.best_ways.specs.Routes.{AreSortedRoutes}
use Rattle.best_ways.specs.Values.{RouteValue, RoutesBelow}
use Rattle.audit_routes.specs.Compatibility.{classless_route}
use Rattle.audit_routes.proofs.Loops.{ended, one_more}
use Rattle.audit_routes.proofs.Preferred.{classless_below, classless_sorted}
use Rattle.audit_routes.proofs.classless.classless_routes.Goals as goal

pub loop-route-preserved : goal.loop-route-preserved
loop-route-preserved g c =
    one_more (map_adds classless_route) [] c.as_slice-route-items.result.now c.loop-route.route-index c.route-item.result c.loop-route.all.items _
    c.loop-route-test.true c.route-item.is c.loop-route.invariant
    (c.in_ok-push.ensures.items ∙ ap (λ (r : RouteValue). c.loop-route.all.items ++ r ∷ []) c.in_ok-classless_route.ensures)

pub from_sorted-requires : goal.from_sorted-requires
from_sorted-requires g c =
    let routes : List RouteValue = c.as_slice-route-items.result.now in
    let is : c.loop-route.all.items ≡ map classless_route routes =
    ended (map_adds classless_route) [] routes c.loop-route.route-index c.loop-route.all.items c.loop-route-test.false c.loop-route.invariant in
    subst (λ (rs : List RouteValue). AreSortedRoutes rs) (sym is) (classless_sorted routes c.as_slice-route-items.ensures.sorted)

pub from_routes-requires : goal.from_routes-requires
from_routes-requires g c =
    let routes : List RouteValue = c.as_slice-route-items.result.now in
    let is : c.from_sorted.result ≡ map classless_route c.as_routes.result.now =
    c.from_sorted.ensures
    ∙ ended (map_adds classless_route) [] routes c.loop-route.route-index c.loop-route.all.items c.loop-route-test.false c.loop-route.invariant
    ∙ ap (λ (rs : List RouteValue). map classless_route rs) c.as_slice-route-items.ensures.routes in
    subst (λ (rs : List RouteValue). RoutesBelow (2 ^ 34) rs) (sym is) (classless_below c.as_routes.result.now c.as_routes.ensures.small)

pub returns : goal.returns
returns g c =
    let routes : List RouteValue = c.as_slice-route-items.result.now in
    c.from_routes.ensures ∙ c.from_sorted.ensures
    ∙ ended (map_adds classless_route) [] routes c.loop-route.route-index c.loop-route.all.items c.loop-route-test.false c.loop-route.invariant
    ∙ ap (λ (rs : List RouteValue). map classless_route rs) (c.as_slice-route-items.ensures.routes ∙ c.as_routes.ensures.routes)
