use Rattle.std.proofs.Common.{◌^◌, sym, subst, ◌∙◌}
use Rattle.best_ways.specs.Routes.{AreSortedRoutes}
use Rattle.best_ways.specs.Values.{RoutesBelow}
use Rattle.best_ways.proofs.WayLemmas.{wider_routes}
use Rattle.area_routes.proofs.OneArea.{below_by, routes_of_one, sorted_by}
use Rattle.area_routes.proofs.intra_area.intra_of_one.Goals as goal

pub from_sorted-requires : goal.from_sorted-requires
from_sorted-requires g c =
    subst AreSortedRoutes (sym c.take_routes.ensures.routes)
    (sorted_by c.args.area.now.area c.args.area.now.offers c.take_routes.ensures.sorted)

pub from_routes-requires : goal.from_routes-requires
from_routes-requires g c =
    wider_routes c.from_sorted.result
    (subst (RoutesBelow (2 ^ 33)) (sym (c.from_sorted.ensures ∙ c.take_routes.ensures.routes))
    (below_by c.args.area.now.area (2 ^ 33) c.args.area.now.offers c.take_routes.ensures.below.offers))

pub returns-clause-routes : goal.returns-clause-routes
returns-clause-routes g c =
    c.from_routes.ensures ∙ c.from_sorted.ensures ∙ c.take_routes.ensures.routes
    ∙ routes_of_one c.args.area.now c.take_routes.ensures.sorted c.take_routes.ensures.hops

pub returns-clause-small : goal.returns-clause-small
returns-clause-small g c =
    subst (RoutesBelow (2 ^ 33)) (sym (c.from_routes.ensures ∙ c.from_sorted.ensures ∙ c.take_routes.ensures.routes))
    (below_by c.args.area.now.area (2 ^ 33) c.args.area.now.offers c.take_routes.ensures.below.offers)
