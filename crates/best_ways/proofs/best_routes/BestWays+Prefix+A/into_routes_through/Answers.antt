use Rattle.std.proofs.Common.{◌≡◌, Some, List, map, sym, ap, subst, ◌∙◌}
use Rattle.lsa_codec.specs.Order.{prefix_cmp}
use Rattle.lsa_codec.proofs.OrderLemmas.{prefix_exact, prefix_total}
use Rattle.best_ways.specs.Best.{ways_of}
use Rattle.best_ways.specs.Candidate.{Candidate}
use Rattle.lsa_codec.specs.Prefix.{Net}
use Rattle.best_ways.specs.Routes.{AreSortedRoutes, route_through}
use Rattle.best_ways.proofs.Reordered.{reordered}
use Rattle.best_ways.proofs.Sorted.{sorted_through}
use Rattle.best_ways.proofs.best_routes.BestWays+Prefix+A.into_routes_through.Goals as goal

pub from_sorted-requires : goal.from_sorted-requires
from_sorted-requires g c = subst AreSortedRoutes (sym c.in_ok-routes_in_order.ensures) (sorted_through (Some c.args.area) c.deref.result.now)

pub returns : goal.returns
returns g c =
    let through = λ (cs : List (Candidate Net)). map (route_through (Some c.args.area)) (ways_of prefix_cmp cs) in
    c.from_sorted.ensures ∙ c.in_ok-routes_in_order.ensures
    ∙ ap through c.deref.ensures.value
    ∙ ap (map (route_through (Some c.args.area))) (reordered prefix_total prefix_exact c.args.self c.in_ok-candidates.candidates.items c.in_ok-candidates.ensures.same)
