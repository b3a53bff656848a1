use Rattle.std.proofs.Common.{◌≡◌, ◌++◌, ◌-◌, drop, length, map}
use Rattle.lsa_codec.specs.Order.{prefix_cmp}
use Rattle.best_ways.specs.Best.{ways_of}
use Rattle.best_ways.specs.Routes.{route_through}
use Rattle.best_ways.proofs.best_routes.routes_in_order.Given as goal

-- the routes so far, and then those of the candidates from the place on
abbrev pub invariant-loop-place : goal.invariant-loop-place
invariant-loop-place g l = map (route_through l.area) (ways_of prefix_cmp l.candidates) ≡ l.routes.items ++ map (route_through l.area) (ways_of prefix_cmp (drop l.place l.candidates))

abbrev pub decreases-loop-place : goal.decreases-loop-place
decreases-loop-place g l = length l.candidates - l.place
