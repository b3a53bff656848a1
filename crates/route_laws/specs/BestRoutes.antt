-- Routes by the best of all ways, in words.
use Rattle.std.specs.Prelude.{◌≡◌, List, map}
use Rattle.lsa_codec.specs.Order.{prefix_cmp}
use Rattle.lsa_codec.specs.Prefix.{Net}
use Rattle.best_ways.specs.Candidate.{Candidate}
use Rattle.best_ways.specs.InWords.{AreBestWays}
use Rattle.best_ways.specs.Routes.{route_of}
use Rattle.best_ways.specs.Values.{RouteValue, WayValue}

-- a route to each prefix to which there is a way, in order of prefix, and no others: each of the least rank of all ways to its
-- prefix, with exactly the areas and the next hops of those ways that have this rank
pub record AreBestRoutes (all : List (Candidate Net)) (routes : List RouteValue) : Type 0 where
  pub ways : List (Net × WayValue)
  pub best : AreBestWays prefix_cmp all ways
  pub each : routes ≡ map route_of ways
