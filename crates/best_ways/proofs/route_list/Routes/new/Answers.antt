use Rattle.std.proofs.Common.{subst, sym}
use Rattle.best_ways.specs.Routes.{AreSortedRoutes}
use Rattle.best_ways.proofs.Sorted.{no_routes_sorted}
use Rattle.best_ways.proofs.route_list.Routes.new.Goals as goal

pub invariant_of-result : goal.invariant_of-result
invariant_of-result g c = subst AreSortedRoutes (sym c.new.ensures.items) no_routes_sorted
