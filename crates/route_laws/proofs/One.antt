-- To the best of some ways there is one list of routes.
use Rattle.std.proofs.Common.{◌≡◌, List, map, ap, ◌∙◌}
use Rattle.lsa_codec.specs.Order.{prefix_cmp}
use Rattle.lsa_codec.specs.Prefix.{Net}
use Rattle.best_ways.specs.Best.{ways_of}
use Rattle.best_ways.specs.Candidate.{Candidate}
use Rattle.best_ways.specs.InWords.{AreBestWays}
use Rattle.best_ways.specs.Routes.{route_of, routes_of}
use Rattle.best_ways.specs.Values.{RouteValue, WayValue}
use Rattle.route_laws.specs.BestRoutes.{AreBestRoutes}

module _ (only : (cs : List (Candidate Net)) (ways : List (Net × WayValue)) → AreBestWays prefix_cmp cs ways → ways ≡ ways_of prefix_cmp cs) where
  pub routes_are_one : (all : List (Candidate Net)) (routes : List RouteValue) → AreBestRoutes all routes → routes ≡ routes_of all
  routes_are_one all routes are = are.each ∙ ap (map route_of) (only all are.ways are.best)
