use Rattle.std.proofs.Common.{map, sym, ap, subst, ◌∙◌}
use Rattle.lsa_codec.specs.Order.{prefix_cmp}
use Rattle.lsa_codec.proofs.OrderLemmas.{prefix_exact, prefix_total}
use Rattle.best_ways.specs.Best.{ways_of}
use Rattle.best_ways.specs.Routes.{AreSortedRoutes, route_of, routes_of}
use Rattle.best_ways.specs.Values.{RoutesBelow}
use Rattle.best_ways.proofs.Bounds.{routes_below}
use Rattle.best_ways.proofs.Reordered.{reordered}
use Rattle.best_ways.proofs.Sorted.{sorted_routes}
use Rattle.best_ways.proofs.best_routes.BestWays+Prefix+A.into_routes.Goals as goal

pub from_sorted-requires : goal.from_sorted-requires
from_sorted-requires g c = subst AreSortedRoutes (sym c.in_ok-routes_in_order.ensures) (sorted_routes c.deref.result.now)

pub returns-clause-routes : goal.returns-clause-routes
returns-clause-routes g c = λ cs at.
    c.from_sorted.ensures ∙ c.in_ok-routes_in_order.ensures
    ∙ ap routes_of c.deref.ensures.value
    ∙ ap (map route_of) (reordered prefix_total prefix_exact c.args.self c.in_ok-candidates.candidates.items c.in_ok-candidates.ensures.same)
    ∙ ap routes_of at

pub returns-clause-small : goal.returns-clause-small
returns-clause-small g c = λ bound cs at below.
    subst (RoutesBelow bound) (sym (returns-clause-routes g c cs at)) (routes_below bound cs below)
