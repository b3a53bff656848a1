use Rattle.std.proofs.Common.{◌≡◌, ◌∙◌, ◌^◌, List, sym, ap, subst}
use Rattle.best_ways.specs.Routes.{AreSortedRoutes}
use Rattle.best_ways.specs.Values.{RouteValue, RoutesBelow}
use Rattle.routing_table.specs.Preferring.{preferring}
use Rattle.audit_routes.proofs.Preferred.{preferred_all, preferred_below, preferred_sorted}
use Rattle.audit_routes.proofs.preferring.preferring.Goals as goal

pub from_sorted-requires : goal.from_sorted-requires
from_sorted-requires g c =
    let first : List RouteValue = c.as_routes-first.result.now in
    let second : List RouteValue = c.as_routes-second.result.now in
    let is : c.in_ok-routes.routes.items ≡ preferring first second =
    c.in_ok-routes.ensures ∙ preferred_all first second c.deref.result.now (c.deref.ensures.value ∙ c.in_ok-nets.ensures) in
    subst (λ (rs : List RouteValue). AreSortedRoutes rs) (sym is) (preferred_sorted first second)

pub from_routes-requires : goal.from_routes-requires
from_routes-requires g c =
    let first : List RouteValue = c.as_routes-first.result.now in
    let second : List RouteValue = c.as_routes-second.result.now in
    let is : c.from_sorted.result ≡ preferring first second =
    c.from_sorted.ensures ∙ c.in_ok-routes.ensures ∙ preferred_all first second c.deref.result.now (c.deref.ensures.value ∙ c.in_ok-nets.ensures) in
    subst (λ (rs : List RouteValue). RoutesBelow (2 ^ 34) rs) (sym is)
    (preferred_below first second c.as_routes-first.ensures.small c.as_routes-second.ensures.small)

pub returns : goal.returns
returns g c =
    let first : List RouteValue = c.as_routes-first.result.now in
    let second : List RouteValue = c.as_routes-second.result.now in
    c.from_routes.ensures ∙ c.from_sorted.ensures ∙ c.in_ok-routes.ensures
    ∙ preferred_all first second c.deref.result.now (c.deref.ensures.value ∙ c.in_ok-nets.ensures)
    ∙ ap (λ (rs : List RouteValue). preferring rs second) c.as_routes-first.ensures.routes
    ∙ ap (λ (rs : List RouteValue). preferring c.args.intra.now rs) c.as_routes-second.ensures.routes
